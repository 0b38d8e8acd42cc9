-- How a cost is split: over parts, and each part over the processes of a set.
use Rattle.std.specs.Prelude.{ℕ, ◌+◌, ◌/◌, ◌%◌, List, length, filter, sum_by, nat_lt, if◌then◌else◌}
use Rattle.std.specs.List.{enumerate_from}
use Rattle.split_types.specs.Sets.{has}

-- the share of a cost for the one of rank j among k
abbrev pub share : ℕ → ℕ → ℕ → ℕ
share cost j k = cost / k + (if nat_lt j (cost % k) then 1 else 0)

-- the rank of p in a set: how many of the set are below p
abbrev pub rank : List ℕ → ℕ → ℕ
rank set p = length (filter (λ q. nat_lt q p) set)

-- the share of a cost for a process: nothing where it isn't in the set
abbrev pub share_of : ℕ → List ℕ → ℕ → ℕ
share_of cost set p = if has set p then share cost (rank set p) (length set) else 0

-- what a process bears of a cost that is split over some sets: each of them, counted from 0, has its share of the cost,
-- and the process has its share of that in each set that has it
abbrev pub bill_of_parts : ℕ → List (List ℕ) → ℕ → ℕ
bill_of_parts cost parts p =
    sum_by (λ part. share_of (share cost part.0 (length parts)) part.1 p) (enumerate_from 0 parts)
