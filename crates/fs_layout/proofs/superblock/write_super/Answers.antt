use Rattle.fs_layout.proofs.SuperLaws.{super_written}
use Rattle.fs_layout.proofs.superblock.write_super.Goals as goal

pub returns : goal.returns
returns c = super_written c.args.version c.args.device _ _ _ _ _ c.requires.block c.clear.ensures
    (rw c.label.ensures at c.put.ensures) c.put_number.ensures c.put_number-2.ensures
