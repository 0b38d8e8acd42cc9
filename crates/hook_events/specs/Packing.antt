-- What the bytes that a history keeps say.
use Rattle.std.specs.Prelude.{ℕ, ◌<◌, ◌≡◌, List, ◌++◌, slice_index_or}
use Rattle.split_types.specs.declared.actor.Actor.TheVariants.{Wb}
use Rattle.split_types.specs.declared.call.Reply.TheVariants as reply
use Rattle.split_types.specs.declared.request.ReqKind.TheVariants.{Pages}
use Rattle.split_types.specs.declared.event.Event.{Event}
use Rattle.split_types.specs.declared.event.Event.TheVariants as event
use Rattle.hook_events.specs.declared.packed.Packed.{Packed}
use Rattle.hook_events.specs.declared.packed.Packed.TheVariants.{Enter, Admit, Put, Ret, Serve, Add, Send, Done, Whole}

-- the event that is meant, where these are the events that are kept whole
abbrev pub event_of : List Event → Packed → Event
event_of whole (Enter by k) = event.Enter by k
event_of whole (Admit by) = event.Admit by
event_of whole (Put fill by s from to g) = event.Put (record { 0 = by }) (record { 0 = s }) g from to fill
event_of whole (Ret by) = event.Ret by reply.Done
event_of whole (Serve s g n) = event.Serve s g n
event_of whole (Add n s g first id) =
    event.Add Wb (record { id = id; kind = Pages (record { 0 = s }) g; first = first; n = n })
event_of whole (Send id cost) = event.Send id cost
event_of whole (Done ok k id) = event.Done k id ok
event_of whole (Whole at) = slice_index_or whole at event.Skip

-- what is meant by a place is one of so many events
abbrev pub IsPlaced : ℕ → Packed → Type 0
IsPlaced n (Whole at) = at < n
IsPlaced n _ = Unit {0}

-- the second list begins with the first
abbrev pub IsFront : List Event → List Event → Type 0
IsFront front all = (rest : List Event) × (all ≡ front ++ rest)
