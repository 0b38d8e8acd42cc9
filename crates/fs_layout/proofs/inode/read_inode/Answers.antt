use Rattle.std.proofs.Common.{length, ap, ◌∙◌}
use Rattle.fs_layout.specs.Inodes.{inode_spelling, IsInodeImage}
use Rattle.fs_layout.proofs.ReadingLaws.{by_fields, none_read}
use Rattle.fs_layout.proofs.InodeLaws.{length-inode_of, image_again}
use Rattle.fs_layout.proofs.inode.read_inode.Goals as goal

pub returns-then-b-ne-BLOCK : goal.returns-then-b-ne-BLOCK
returns-then-b-ne-BLOCK c = none_read (IsInodeImage c.args.device) inode_spelling _
    (λ y is spelled. c.if-b-ne-BLOCK.true (ap length spelled ∙ length-inode_of c.args.device y.owner y.size y.blocks
    is))

pub returns : goal.returns
returns c =
    let read = c.in_ok-blocks.ensures in
    let decides = rw c.deref.ensures.value at c.is_spelled-is_read.ensures in
    rw (c.then_some.ensures, c.from_vec-blocks.ensures) (by_fields (IsInodeImage c.args.device) inode_spelling
    c.args.b.now _ _ (λ y is spelled. image_again c.args.device c.args.b.now y _ _ c.in_ok-blocks.blocks.items
    c.requires.most (c.owner_of-owner.ensures.number ∙ c.number_at.ensures) c.number_at-size.ensures read.spelled
    read.fit is spelled) decides)
