-- The clock has advanced for the accounts so far.
use Rattle.std.proofs.Common.{◌≡◌, ◌++◌, map, take, drop}
use Rattle.token_ledger.specs.Standings.{advanced}
use Rattle.token_ledger.proofs.ledger.advance_all.Given as goal

abbrev pub invariant-loop-standing : goal.invariant-loop-standing
invariant-loop-standing l = l.standings ≡ map (advanced l.d)
    (take l.standing-index l.fn.standings) ++ drop l.standing-index l.fn.standings
