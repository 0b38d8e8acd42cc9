use Rattle.std.proofs.Common.{◌≡◌, take}
use Rattle.split_types.specs.DiskLayout.{numbers}
use Rattle.fs_layout.specs.Fields.{with_bytes}
use Rattle.fs_layout.proofs.bytes.put_numbers.Given as goal

abbrev pub invariant-loop-i : goal.invariant-loop-i
invariant-loop-i l = l.out ≡ with_bytes l.fn.out l.at (numbers (take l.i l.values))
