-- What the shares of a cost come to.
use Rattle.std.specs.Prelude.{◌≡◌, ℕ, ◌≤◌, List, length, All}
use Rattle.std.specs.List.{range_with_len, sum_by}
use Rattle.split_types.specs.Sets.{pids, IsSet}
use Rattle.split_types.specs.Share.{share, bill_of_parts}

-- where some process bears a cost, the shares of all ranks add up to it
abbrev pub SharesAddUp : Type 0
SharesAddUp = (cost k : ℕ) → 1 ≤ k → sum_by (λ j. share cost j k) (range_with_len 0 k) ≡ cost

-- a set of processes that has some
pub record IsPart (set : List ℕ) : Type 0 where
  pub is_set : IsSet set
  pub some : 1 ≤ length set

-- where there is a part and no part is empty, the bills of all processes add up to the cost
abbrev pub BillsAddUp : Type 0
BillsAddUp =
    (cost : ℕ) (parts : List (List ℕ)) → 1 ≤ length parts → All IsPart parts
    → sum_by (bill_of_parts cost parts) pids ≡ cost
