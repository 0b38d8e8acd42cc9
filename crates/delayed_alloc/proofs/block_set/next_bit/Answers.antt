use Rattle.std.proofs.Common.{◌<◌, ◌≤◌, ◌+◌, ◌/◌, ◌^◌, get_or, arith}
use Rattle.delayed_alloc.proofs.BitLaws.{next-of_word}
use Rattle.delayed_alloc.proofs.block_set.next_bit.Goals as goal

pub returns-then-word-ne0-clause-next : goal.returns-then-word-ne0-clause-next
returns-then-word-ne0-clause-next c =
    let words = c.args.words.now in
    let at = c.loop-at.at in
    let some : 0 < get_or words at 0 = omega (arith, c.if-word-ne0.true) in
    let fits : get_or words at 0 < 2 ^ 64 = omega (arith, c.type_inv.words at) in
    let behind : c.args.from / 64 + 1 ≤ at = omega (arith, c.loop-at.auto.at) in
    rw c.lowest_bit.ensures.place
    (next-of_word words c.args.from at some fits behind c.in_default.ensures.none c.loop-at.invariant)
