use Rattle.std.proofs.Common.{◌+◌, length, ap, sym, ◌∙◌, arith}
use Rattle.token_ledger.specs.Books.{bill_of}
use Rattle.token_ledger.specs.Standings.{IsNumber, bears}
use Rattle.token_ledger.proofs.BillLaws.{first_bears, first_more, first_most, first_all, part_payers, billed_now, billed_then, billed_as}
use Rattle.token_ledger.proofs.billing.bill_parts.Goals as goal

pub bill_part-requires-clause-payers : goal.bill_part-requires-clause-payers
bill_part-requires-clause-payers c =
    λ p here. c.requires.payers p (part_payers c.args.parts.now c.loop-at.at p c.index-parts-at.result
    c.loop-at-test.true c.index-parts-at.is here)

pub bill_part-requires-clause-room : goal.bill_part-requires-clause-room
bill_part-requires-clause-room c = rw (c.share.ensures ∙ c.new-split.ensures c.loop-at.at c.loop-at-test.true) (λ a number.
    let S = c.args.standings.now in
    let T = c.loop-at.standings in
    let O = c.args.owners.now in
    let parts = c.args.parts.now in
    let n = c.loop-at.at in
    let same : IsNumber (length S) a = rw c.loop-at.invariant.len at number in
    let now = billed_now S T (first_bears O c.args.cost parts n) a c.loop-at.invariant same in
    let more = first_more O c.args.cost parts n c.index-parts-at.result a c.loop-at-test.true c.index-parts-at.is in
    let most = first_most O c.args.cost parts (n + 1) a in
    let room = c.requires.room a same in
    omega (arith, now, more, most, room))

pub loop-at-preserved : goal.loop-at-preserved
loop-at-preserved c =
    let O = c.args.owners.now in
    let parts = c.args.parts.now in
    let n = c.loop-at.at in
    let part = c.index-parts-at.result in
    billed_then c.args.standings.now c.loop-at.standings c.bill_part.new.standings (first_bears O c.args.cost parts n)
    (bears O c.share.result part)
    (first_bears O c.args.cost parts (n + 1)) c.loop-at.invariant c.bill_part.ensures
    (λ a. first_more O c.args.cost parts n part a c.loop-at-test.true c.index-parts-at.is
    ∙ ap (λ cost. first_bears O c.args.cost parts n a + bears O cost part a) (sym (c.share.ensures ∙ c.new-split.ensures n c.loop-at-test.true)))

pub returns : goal.returns
returns c =
    let O = c.args.owners.now in
    let parts = c.args.parts.now in
    let n = c.loop-at.at in
    billed_as c.args.standings.now c.loop-at.standings (first_bears O c.args.cost parts n)
    (bill_of O c.args.cost parts) c.loop-at.invariant
    (λ a. sym (first_all O c.args.cost parts n a c.loop-at-test.false))
