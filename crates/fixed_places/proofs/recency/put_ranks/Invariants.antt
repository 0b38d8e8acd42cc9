use Rattle.std.proofs.Common.{◌≡◌, ℕ, ◌<◌, length, get_or}
use Rattle.std.specs.Prelude.{count_by, nat_lt}
use Rattle.fixed_places.proofs.recency.put_ranks.Given as goal

-- the first ranks stand
abbrev pub invariant-loop-i : goal.invariant-loop-i
invariant-loop-i l = record {
  len : length l.ranks.items ≡ length l.touches;
  done : (k : ℕ) → k < l.i → get_or l.ranks.items k 0 ≡ count_by (λ other. nat_lt other (get_or l.touches k 0))
      l.touches;
}
