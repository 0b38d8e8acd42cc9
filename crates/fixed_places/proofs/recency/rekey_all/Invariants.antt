use Rattle.std.proofs.Common.{◌≡◌, ℕ, ◌<◌, ◌≤◌, length, get_or, None}
use Rattle.fixed_places.specs.Recency.{rekeyed}
use Rattle.fixed_places.proofs.recency.rekey_all.Given as goal

-- the first candidates are kept under their new numbers, the others are as they were
abbrev pub invariant-loop-i : goal.invariant-loop-i
invariant-loop-i l = record {
  len : length l.candidates ≡ length l.touches;
  done : (k : ℕ) → k < l.i → get_or l.candidates k None
      ≡ rekeyed (get_or l.touches k 0) (get_or l.initial.candidates k None);
  rest : (k : ℕ) → l.i ≤ k → get_or l.candidates k None ≡ get_or l.initial.candidates k None;
}
