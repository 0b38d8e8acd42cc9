-- The requests of a history: all of them, those that are queued, and those that are in flight.
use Rattle.std.specs.Prelude.{ℕ, ◌+◌, ◌==◌, List, [], ◌∷◌, ◌++◌, filter, Bool, true, false, not, if◌then◌else◌}
use Rattle.split_types.specs.declared.ids.ReqId.{ReqId}
use Rattle.split_types.specs.declared.request.ReqKind.{ReqKind}
use Rattle.split_types.specs.declared.request.ReqKind.TheVariants.{Read, Pages}
use Rattle.split_types.specs.declared.request.Request.{Request}
use Rattle.split_types.specs.declared.facts.ReqState.{ReqState}
use Rattle.split_types.specs.declared.facts.ReqState.TheVariants as state
use Rattle.split_types.specs.declared.event.Event.{Event}
use Rattle.split_types.specs.declared.event.Event.TheVariants.{Add, Send, Done}
use Rattle.split_types.specs.History.{◌▹◌}

-- the request has this number
abbrev pub is_numbered : ReqId → Request → Bool
is_numbered id r = r.id.0 == id.0

-- the request writes: it is no read
abbrev pub is_write : Request → Bool
is_write r = by_kind r.kind where
  by_kind : ReqKind → Bool
  by_kind (Read p s g) = false
  by_kind _ = true

-- the request writes pages of a file
abbrev pub is_pages : Request → Bool
is_pages r = by_kind r.kind where
  by_kind : ReqKind → Bool
  by_kind (Pages s g) = true
  by_kind _ = false

-- all requests, in the order in which they were added
abbrev pub requests : List Event → List Request
requests [] = []
requests (h ▹ Add by r) = requests h ++ r ∷ []
requests (h ▹ e) = requests h

-- the requests that were added and not yet sent, in the order in which they were added
abbrev pub queued : List Event → List Request
queued [] = []
queued (h ▹ Add by r) = queued h ++ r ∷ []
queued (h ▹ Send id cost) = filter (λ r. not (is_numbered id r)) (queued h)
queued (h ▹ e) = queued h

-- the requests that were sent and are not yet done, in the order in which they were sent
abbrev pub in_flight : List Event → List Request
in_flight [] = []
in_flight (h ▹ Send id cost) = in_flight h ++ filter (is_numbered id) (queued h)
in_flight (h ▹ Done k id ok) = filter (λ r. not (is_numbered id r)) (in_flight h)
in_flight (h ▹ e) = in_flight h

-- the requests that weren't done well, in the order in which they were added: queued, in flight, or done badly
abbrev pub unfinished : List Event → List Request
unfinished [] = []
unfinished (h ▹ Add by r) = unfinished h ++ r ∷ []
unfinished (h ▹ Done k id true) = filter (λ r. not (is_numbered id r)) (unfinished h)
unfinished (h ▹ e) = unfinished h

-- how far a request has come
abbrev pub state_of : List Event → ℕ → ReqState
state_of [] id = state.Queued
state_of (h ▹ Done k i ok) id = if i.0 == id then (if ok then state.Done else state.Bad) else state_of h id
state_of (h ▹ e) id = state_of h id

-- the number of sends
abbrev pub sends : List Event → ℕ
sends [] = 0
sends (h ▹ Send id cost) = sends h + 1
sends (h ▹ e) = sends h
