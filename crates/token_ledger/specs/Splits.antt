-- How a cost is split.
use Rattle.std.specs.Prelude.{ℕ, ◌+◌, nat_lt, if◌then◌else◌}

-- the share of the one of a rank: the even part, and one more where its rank bears what is left over
abbrev pub share_in : ℕ → ℕ → ℕ → ℕ
share_in even left_over rank = even + (if nat_lt rank left_over then 1 else 0)
