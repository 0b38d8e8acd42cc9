-- Numbers that rise.
use Rattle.std.specs.Prelude.{ℕ, ◌<◌, ◌≤◌, List, All}

-- the least number that is above all of these
pub record IsLeastAbove (least : ℕ) (numbers : List ℕ) : Type 0 where
  pub above : (n : ℕ) → least ≤ n → All (λ k. k < n) numbers
  pub below : (n : ℕ) → All (λ k. k < n) numbers → least ≤ n
