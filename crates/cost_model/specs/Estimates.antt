-- What the put of a data page is expected to cost when the page is written out.
use Rattle.std.specs.Prelude.{ℕ, ◌+◌, ◌==◌, List, Bool, if◌then◌else◌}
use Rattle.std.specs.List.{list_any}

-- the page comes right after one of these
abbrev pub is_next : List ℕ → ℕ → Bool
is_next pages page = list_any (λ q. q + 1 == page) pages

-- the estimate for a page, where these are the pages of the last puts in its file
abbrev pub data_estimate : List ℕ → ℕ → ℕ
data_estimate recent page = if is_next recent page then 2 else 52
