use Rattle.std.proofs.Common.{◌≡◌, ◌/◌, get_or, arith}
use Rattle.std.proofs.lemmas.Grind.{common_steps}
use Rattle.fs_layout.proofs.BitsLaws.{bits_once_set, set_bit, clear_bit}
use Rattle.fs_layout.proofs.bits.set_bit.Goals as goal

pub returns-then-is_used-clause-bits : goal.returns-then-is_used-clause-bits
returns-then-is_used-clause-bits c =
    let byte : c.index_mut.result.now ≡ get_or c.args.bytes.now.items (c.args.block / 8) 0 =
    grind (arith, common_steps) in
    rw (byte, c.if-is_used.true) (bits_once_set c.args.bytes.now.items _ c.args.block _ c.requires.len
    c.requires.within (set_bit _ _ (omega arith)))

pub returns-else-is_used-clause-bits : goal.returns-else-is_used-clause-bits
returns-else-is_used-clause-bits c =
    let byte : c.index_mut-else-is_used.result.now ≡ get_or c.args.bytes.now.items (c.args.block / 8) 0 =
    grind (arith, common_steps) in
    rw (byte, c.if-is_used.false) (bits_once_set c.args.bytes.now.items _ c.args.block _ c.requires.len
    c.requires.within (clear_bit _ _ (omega arith)))
