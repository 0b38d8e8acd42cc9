use Rattle.std.proofs.Common.{length, ap, ◌∙◌}
use Rattle.fs_layout.specs.Journal.{commit_spelling, IsCommitImage}
use Rattle.fs_layout.proofs.ReadingLaws.{by_fields, none_read}
use Rattle.fs_layout.proofs.JournalLaws.{length-commit_block, commit_again}
use Rattle.fs_layout.proofs.journal.read_commit.Goals as goal

pub returns-then-b-ne-BLOCK : goal.returns-then-b-ne-BLOCK
returns-then-b-ne-BLOCK c = none_read IsCommitImage commit_spelling _ (λ y is spelled. c.if-b-ne-BLOCK.true
    (ap length spelled ∙ length-commit_block y.0))

pub returns : goal.returns
returns c = rw c.then_some.ensures (by_fields IsCommitImage commit_spelling c.args.b.now _ _
    (λ y is spelled. commit_again y c.args.b.now _ c.number_at-t.ensures is spelled) c.is_committed.ensures)
