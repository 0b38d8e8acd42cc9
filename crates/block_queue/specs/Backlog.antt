-- What contracts see of a queue.
use Rattle.std.specs.Prelude.{ℕ, ◌<◌, List, Bool, not, AllPairs}
use Rattle.split_types.specs.declared.request.Request.{Request}
use Rattle.split_types.specs.Requests.{is_write}

-- the requests that wait, by id; those in flight, each with its cost, in the order of their sends; the least id that
-- may be
-- added next; and for how many more requests there is room
pub record Backlog : Type 0 where
  pub queued : List Request
  pub in_flight : List (Request × ℕ)
  pub next_id : ℕ
  pub spare : ℕ

-- each request has a greater id than those before it
abbrev pub IsById : List Request → Type 0
IsById rs = AllPairs (λ a b. a.id.0 < b.id.0) rs

-- the request reads a page for a process
abbrev pub is_read : Request → Bool
is_read r = not (is_write r)
