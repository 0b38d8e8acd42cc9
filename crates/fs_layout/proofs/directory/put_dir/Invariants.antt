use Rattle.std.proofs.Common.{◌≡◌, ◌*◌, take}
use Rattle.std.specs.Prelude.{flat_map}
use Rattle.fs_layout.specs.Directory.{entry_spelling}
use Rattle.fs_layout.proofs.directory.put_dir.Given as goal

abbrev pub invariant-loop-j : goal.invariant-loop-j
invariant-loop-j l = take (64 * l.j) l.out ≡ flat_map entry_spelling (take l.j l.entries)
