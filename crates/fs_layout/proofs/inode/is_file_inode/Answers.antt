use Rattle.std.proofs.Common.{arith}
use Rattle.fs_layout.proofs.FieldLaws.{decides_too}
use Rattle.fs_layout.proofs.InodeLaws.{inode_parts}
use Rattle.fs_layout.proofs.inode.is_file_inode.Goals as goal

pub returns : goal.returns
returns c = decides_too _ (inode_parts c.args.b.now c.args.serial c.args.size c.args.blocks.now
    (λ i. omega (arith, c.type_inv.b i)) c.requires.block c.requires.serial c.requires.size c.requires.blocks)
    c.is_zero.ensures
