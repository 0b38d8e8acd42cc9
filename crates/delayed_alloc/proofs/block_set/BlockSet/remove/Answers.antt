use Rattle.std.proofs.Common.{◌≡◌, ◌/◌, ◌*◌, ◌<◌, ◌≤◌, length, get_or, sym, ap, ◌∙◌, subst, arith}
use Rattle.std.proofs.lemmas.List.{get_or_read}
use Rattle.delayed_alloc.specs.Bits.{without_bit}
use Rattle.delayed_alloc.proofs.BitLaws.{tops-cleared, tops-kept, is_set-without_bit}
use Rattle.delayed_alloc.proofs.block_set.BlockSet.remove.Goals as goal

pub invariant_of-self-clause-tops_are : goal.invariant_of-self-clause-tops_are
invariant_of-self-clause-tops_are c =
    let s = c.args.self.now in
    let within : c.args.block < 64 * length s.words.items = omega (arith, s.words.ok.0, c.requires) in
    let few : length s.words.items ≤ 64 * length s.tops.items = omega (arith, s.words.ok.0, s.tops.ok.0, s.enough) in
    let left = c.clear_bit.new.words in
    let inside : c.args.block / 64 < length left.items =
    omega (arith, left.ok.0, s.words.ok.0, c.clear_bit.ensures.len, c.requires) in
    let read : c.index.result.now ≡ get_or left.items (c.args.block / 64) 0 =
    get_or_read left.items (c.args.block / 64) c.index.result.now inside c.index.ensures 0 in
    let gone : get_or (without_bit s.words.items c.args.block) (c.args.block / 64) 0 ≡ 0 =
    ap (λ words. get_or words (c.args.block / 64) 0) (sym c.clear_bit.ensures.bits) ∙ sym read ∙ c.if-index-eq0.true in
    rw (c.clear_bit.ensures.bits, c.clear_bit-then-index-eq0.ensures.bits)
    (tops-cleared s.words.items s.tops.items c.args.block within few gone s.tops_are)

pub invariant_of-self-else-index-eq0-clause-tops_are : goal.invariant_of-self-else-index-eq0-clause-tops_are
invariant_of-self-else-index-eq0-clause-tops_are c =
    let s = c.args.self.now in
    let within : c.args.block < 64 * length s.words.items = omega (arith, s.words.ok.0, c.requires) in
    let left = c.clear_bit.new.words in
    let inside : c.args.block / 64 < length left.items =
    omega (arith, left.ok.0, s.words.ok.0, c.clear_bit.ensures.len, c.requires) in
    let read : c.index.result.now ≡ get_or left.items (c.args.block / 64) 0 =
    get_or_read left.items (c.args.block / 64) c.index.result.now inside c.index.ensures 0 in
    let some : 0 < get_or (without_bit s.words.items c.args.block) (c.args.block / 64) 0 =
    subst (λ words. 0 < get_or words (c.args.block / 64) 0) c.clear_bit.ensures.bits
    (rw (← read) (omega (arith, c.if-index-eq0.false))) in
    rw c.clear_bit.ensures.bits (tops-kept s.words.items s.tops.items c.args.block within some s.tops_are)

pub returns-then-index-eq0-clause-set : goal.returns-then-index-eq0-clause-set
returns-then-index-eq0-clause-set c =
    let s = c.args.self.now in
    let within : c.args.block < 64 * length s.words.items = omega (arith, s.words.ok.0, c.requires) in
    rw c.clear_bit.ensures.bits (is_set-without_bit s.words.items c.args.block within)

pub returns-else-index-eq0-clause-set : goal.returns-else-index-eq0-clause-set
returns-else-index-eq0-clause-set c =
    let s = c.args.self.now in
    let within : c.args.block < 64 * length s.words.items = omega (arith, s.words.ok.0, c.requires) in
    rw c.clear_bit.ensures.bits (is_set-without_bit s.words.items c.args.block within)
