use Rattle.std.proofs.Common.{arith}
use Rattle.fs_layout.proofs.FieldLaws.{decides_too}
use Rattle.fs_layout.proofs.SuperLaws.{super_parts}
use Rattle.fs_layout.proofs.superblock.is_super_block.Goals as goal

pub returns : goal.returns
returns c =
    let parts = super_parts c.args.b.now c.args.version c.args.device (λ i. omega (arith, c.type_inv.b i))
    c.requires.block c.requires.version c.requires.device in
    decides_too _ parts (rw c.label.ensures at c.is_framed.ensures)
