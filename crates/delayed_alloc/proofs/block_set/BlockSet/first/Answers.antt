use Rattle.std.proofs.Common.{◌≡◌, ◌<◌, ◌^◌, length, get_or, subst}
use Rattle.std.proofs.lemmas.List.{get_or_read}
use Rattle.delayed_alloc.specs.Bits.{IsFirstSet}
use Rattle.delayed_alloc.proofs.BitLaws.{first-of_next, first-of_tops, word-within}
use Rattle.delayed_alloc.proofs.block_set.BlockSet.first.Goals as goal

pub returns-clause-first : goal.returns-clause-first
returns-clause-first c =
    let s = c.args.self.now in
    let at = c.in_ok-at.at in
    let top : IsFirstSet s.tops.items at =
    first-of_next s.tops.items at (rw (← c.deref.ensures.value) c.in_ok-at.ensures.next) in
    let inside : at < length s.words.items = word-within s.words.items s.tops.items at s.tops_are top.set in
    let read : c.index.result.now ≡ get_or s.words.items at 0 =
    get_or_read s.words.items at c.index.result.now inside c.index.ensures 0 in
    let fits : get_or s.words.items at 0 < 2 ^ 64 = subst (λ word. word < 2 ^ 64) read c.lowest_bit.ensures.fits in
    rw (c.lowest_bit.ensures.place, read) (first-of_tops s.words.items s.tops.items at s.tops_are top fits)
