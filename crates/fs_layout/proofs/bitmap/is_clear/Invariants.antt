use Rattle.std.proofs.Common.{◌≡◌, ℕ, ◌<◌, ◌≤◌, false}
use Rattle.fs_layout.specs.BitsOf.{bit_of}
use Rattle.fs_layout.proofs.bitmap.is_clear.Given as goal

abbrev pub invariant-loop-i : goal.invariant-loop-i
invariant-loop-i l = (i : ℕ) → l.from ≤ i → i < l.i → bit_of l.b i ≡ false
