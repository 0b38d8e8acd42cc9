use Rattle.std.proofs.Common.{◌≡◌, ℕ, ◌+◌, ◌*◌, ◌<◌, get_or, false}
use Rattle.std.specs.Prelude.{slice_index_or}
use Rattle.split_types.specs.DiskLayout.{number_of_bits}
use Rattle.fs_layout.proofs.bitmap.write_bitmap.Given as goal

abbrev pub invariant-loop-j : goal.invariant-loop-j
invariant-loop-j l = (j : ℕ) → j < l.j → get_or l.out j 0 ≡ number_of_bits 8 (λ k. slice_index_or l.taken (8 * j + k)
    false)
