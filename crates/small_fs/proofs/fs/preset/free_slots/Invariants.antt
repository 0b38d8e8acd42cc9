use Rattle.std.proofs.Common.{◌≡◌, ℕ, ◌<◌, length, get_or, Some, None}
use Rattle.small_fs.proofs.fs.preset.free_slots.Given as goal

abbrev pub invariant-loop-s : goal.invariant-loop-s
invariant-loop-s l = record {
  len : length l.free ≡ l.n;
  keys : (k : ℕ) → k < l.s → get_or l.free k None ≡ Some k;
}
