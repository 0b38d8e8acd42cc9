use Rattle.fs_layout.proofs.DirectoryLaws.{IsReadTo}
use Rattle.fs_layout.proofs.directory.read_dir.Given as goal

abbrev pub invariant-loop-j : goal.invariant-loop-j
invariant-loop-j l = IsReadTo l.b l.j l.entries.items
