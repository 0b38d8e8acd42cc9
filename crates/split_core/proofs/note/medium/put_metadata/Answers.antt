-- The superblock, and the images of buffers, are the metadata at the start.
use Rattle.std.proofs.Common.{arith, ap}
use Rattle.split_types.specs.Parents.{buffer_at}
use Rattle.split_core.proofs.MediumNotesStart.{super_is, super_start, dir_at, inode_at, image_start}
use Rattle.split_core.proofs.note.medium.put_metadata.Goals as goal

pub write_super-requires-clause-value : goal.write_super-requires-clause-value
write_super-requires-clause-value c =
    super_is c.args.w.now c.layout_version.result c.requires.accepted c.layout_version.ensures

pub returns-in-0 : goal.returns-in-0
returns-in-0 c =
    super_start c.args.w.now c.args.block c.layout_version.result c.write_super.new.out c.in-0.is
    c.layout_version.ensures c.write_super.ensures

pub returns-in-1 : goal.returns-in-1
returns-in-1 c =
    image_start c.args.w.now c.args.fs.now c.args.block _ c.image.new.out c.requires.files (omega (arith, c.in-1.is))
    c.requires.block (ap buffer_at c.in-1.is) c.image.ensures

pub returns-in-2-to-5 : goal.returns-in-2-to-5
returns-in-2-to-5 c =
    image_start c.args.w.now c.args.fs.now c.args.block _ c.image-in-2-to-5.new.out c.requires.files (omega arith)
    c.requires.block (dir_at c.args.block (omega arith) (omega arith)) c.image-in-2-to-5.ensures

pub returns-in_default : goal.returns-in_default
returns-in_default c =
    image_start c.args.w.now c.args.fs.now c.args.block _ c.image-in_default.new.out c.requires.files (omega arith)
    c.requires.block (inode_at c.args.block (omega arith)) c.image-in_default.ensures
