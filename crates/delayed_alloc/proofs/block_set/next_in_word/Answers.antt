use Rattle.std.proofs.Common.{◌<◌, ◌/◌, ◌%◌, ◌^◌, sym, ◌∙◌, get_or, arith}
use Rattle.delayed_alloc.proofs.BitLaws.{rest-none, rest-next}
use Rattle.delayed_alloc.proofs.block_set.next_in_word.Goals as goal

pub returns-then-rest-eq0-clause-none : goal.returns-then-rest-eq0-clause-none
returns-then-rest-eq0-clause-none c =
    rest-none c.args.words.now c.args.from (sym c.bits_from-rest.ensures.value ∙ c.if-rest-eq0.true)

pub returns-clause-next : goal.returns-clause-next
returns-clause-next c =
    let words = c.args.words.now in
    let from = c.args.from in
    let some : 0 < get_or words (from / 64) 0 / 2 ^ (from % 64) =
    omega (arith, c.bits_from-rest.ensures.value, c.if-rest-eq0.false) in
    rw (c.lowest_bit.ensures.place, c.bits_from-rest.ensures.value)
    (rest-next words from some c.bits_from-rest.ensures.fits)
