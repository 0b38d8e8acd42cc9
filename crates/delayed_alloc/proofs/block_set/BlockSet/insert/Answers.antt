use Rattle.std.proofs.Common.{◌*◌, ◌<◌, ◌≤◌, length, arith}
use Rattle.delayed_alloc.proofs.BitLaws.{tops-set, is_set-with_bit}
use Rattle.delayed_alloc.proofs.block_set.BlockSet.insert.Goals as goal

pub invariant_of-self-clause-tops_are : goal.invariant_of-self-clause-tops_are
invariant_of-self-clause-tops_are c =
    let s = c.args.self.now in
    let within : c.args.block < 64 * length s.words.items = omega (arith, s.words.ok.0, c.requires) in
    let few : length s.words.items ≤ 64 * length s.tops.items = omega (arith, s.words.ok.0, s.tops.ok.0, s.enough) in
    rw (c.set_bit.ensures.bits, c.set_bit-2.ensures.bits)
    (tops-set s.words.items s.tops.items c.args.block within few s.tops_are)

pub returns-clause-set : goal.returns-clause-set
returns-clause-set c =
    let s = c.args.self.now in
    let within : c.args.block < 64 * length s.words.items = omega (arith, s.words.ok.0, c.requires) in
    rw c.set_bit.ensures.bits (is_set-with_bit s.words.items c.args.block within)
