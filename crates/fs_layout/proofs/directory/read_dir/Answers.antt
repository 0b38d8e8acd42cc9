use Rattle.std.proofs.Common.{length, ap, ◌∙◌}
use Rattle.fs_layout.specs.Directory.{dir_spelling, IsDirImage}
use Rattle.fs_layout.proofs.ReadingLaws.{none_read}
use Rattle.fs_layout.proofs.DirectoryLaws.{length-dir, no_entry, read_more}
use Rattle.fs_layout.proofs.directory.read_dir.Goals as goal

pub returns-then-b-ne-BLOCK : goal.returns-then-b-ne-BLOCK
returns-then-b-ne-BLOCK c = none_read IsDirImage dir_spelling _ (λ y is spelled. c.if-b-ne-BLOCK.true
    (ap length spelled ∙ length-dir y is))

pub returns-in-None : goal.returns-in-None
returns-in-None c = no_entry c.args.b.now c.loop-j.j c.loop-j-test.true c.in-None.ensures

pub loop-j-preserved : goal.loop-j-preserved
loop-j-preserved c = rw c.in_ok-push-in-Some.ensures.items (read_more c.args.b.now c.loop-j.j c.loop-j.entries.items
    c.in-Some.entry c.loop-j-test.true c.loop-j.invariant c.in-Some.ensures)
