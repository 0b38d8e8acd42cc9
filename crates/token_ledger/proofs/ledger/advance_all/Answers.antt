use Rattle.std.proofs.Common.{◌<◌, length, get_or, arith}
use Rattle.std.proofs.lemmas.List.{get_or_default}
use Rattle.std.proofs.lemmas.List.Edits.{map_over_more}
use Rattle.token_ledger.specs.declared.standing.Standing.{Standing}
use Rattle.token_ledger.specs.Standings.{advanced}
use Rattle.token_ledger.proofs.StandingLaws.{nobody}
use Rattle.token_ledger.proofs.ledger.advance_all.Goals as goal

pub loop-standing-preserved : goal.loop-standing-preserved
loop-standing-preserved c =
    let T = c.loop-standing.standings in
    let i = c.loop-standing.standing-index in
    let s : Standing = get_or T i nobody in
    let within : i < length T = omega arith in
    rw c.advance.ensures
    (map_over_more (advanced c.args.d) c.args.standings.now T i s c.loop-standing-test.true c.loop-standing.invariant
    (get_or_default T i nobody s within))
