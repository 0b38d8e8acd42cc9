use Rattle.std.proofs.Common.{◌≡◌, None}
use Rattle.std.specs.Prelude.{replicate}
use Rattle.small_fs.proofs.fs.preset.no_files.Given as goal

abbrev pub invariant-loop : goal.invariant-loop
invariant-loop l = l.files.items ≡ replicate l.counter None
