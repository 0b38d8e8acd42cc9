use Rattle.fs_layout.proofs.InodeLaws.{inode_pages}
use Rattle.fs_layout.proofs.inode.write_inode.Goals as goal

pub put_inode-requires-clause-pages : goal.put_inode-requires-clause-pages
put_inode-requires-clause-pages c = rw c.as_slice.ensures (inode_pages 32768 c.args.i.now.owner c.args.i.now.size
    c.args.i.now.blocks c.requires.value)
