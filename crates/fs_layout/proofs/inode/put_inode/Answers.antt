use Rattle.fs_layout.proofs.InodeLaws.{inode_written, zeros_written}
use Rattle.fs_layout.proofs.inode.put_inode.Goals as goal

pub returns-in-Some : goal.returns-in-Some
returns-in-Some c = rw c.in-Some.is (inode_written c.in-Some.serial c.args.size c.args.blocks.now _ _ _ _ _
    (rw c.in-Some.is at c.requires.pages) c.requires.block c.clear.ensures c.put_number.ensures
    c.put_number-in-Some.ensures
    c.put_numbers.ensures)

pub returns-in-None : goal.returns-in-None
returns-in-None c = rw c.in-None.is (zeros_written _ _ c.requires.block c.clear.ensures)
