-- A history: the list of its events, the newest first.
use Rattle.std.specs.Prelude.{ℕ, ◌+◌, ◌==◌, List, ◌∷◌, [], length, nat_lt, if◌then◌else◌, Option, Some, None}
use Rattle.split_types.specs.declared.event.Event.{Event}
use Rattle.split_types.specs.declared.event.Event.TheVariants.{Add}

-- the history h with the event e after it; an event is named by its place, the number of events before it
infixl 15 ◌▹◌
pattern abbrev pub ◌▹◌ : List Event → Event → List Event
h ▹ e = e ∷ h

-- the number of requests that were added
abbrev pub adds : List Event → ℕ
adds [] = 0
adds (h ▹ Add by r) = adds h + 1
adds (h ▹ e) = adds h

-- the event at a place; none where the history ends before
abbrev pub event_at : List Event → ℕ → Option Event
event_at [] i = None
event_at (h ▹ e) i = if i == length h then Some e else event_at h i

-- the history of the first n events; the whole one where it has no more
abbrev pub older : List Event → ℕ → List Event
older [] n = []
older (h ▹ e) n = if nat_lt (length h) n then h ▹ e else older h n
