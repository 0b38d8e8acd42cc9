-- Sets of processes, as rising lists of their numbers.
use Rattle.std.specs.Prelude.{◌≡◌, ℕ, ◌==◌, List, Bool, filter}
use Rattle.std.specs.List.{list_any, range_with_len}

-- the numbers that a process may have
unfoldable pub pids : List ℕ
pids = range_with_len 1 256

-- p stands in the list
abbrev pub has : List ℕ → ℕ → Bool
has xs p = list_any (λ q. q == p) xs

-- p stands in one of the lists
abbrev pub some_has : List (List ℕ) → ℕ → Bool
some_has xss p = list_any (λ xs. has xs p) xss

-- all that stand in one of the lists, rising
abbrev pub union_of : List (List ℕ) → List ℕ
union_of xss = filter (some_has xss) pids

-- the list is a set: it has some of the processes, each once, rising
abbrev pub IsSet : List ℕ → Type 0
IsSet set = filter (has set) pids ≡ set
