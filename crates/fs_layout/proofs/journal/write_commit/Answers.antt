use Rattle.fs_layout.proofs.JournalLaws.{commit_written}
use Rattle.fs_layout.proofs.journal.write_commit.Goals as goal

pub returns : goal.returns
returns c = commit_written c.args.t.0 _ _ _ _ c.requires.block c.clear.ensures c.put.ensures c.put_number.ensures
