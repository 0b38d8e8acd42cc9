-- Legal: which histories a workload may have, when they are drained, and the one that turns in order make.
use Rattle.std.specs.Prelude.{◌≡◌, ℕ, zero, suc, ◌==◌, List, [], ◌∷◌, ◌++◌, length, map, Bool, not, ◌&&◌, Option, Some, None, if◌then◌else◌, replicate}
use Rattle.std.specs.List.{list_any, list_all, flat_map}
use Rattle.split_types.specs.declared.actor.Actor.{Actor}
use Rattle.split_types.specs.declared.actor.Actor.TheVariants.{Client, Wb, Cm, Dq, Dn, Tk}
use Rattle.split_types.specs.declared.workload.Workload.{Workload}
use Rattle.split_types.specs.declared.event.Event.{Event}
use Rattle.split_types.specs.History.{◌▹◌}
use Rattle.split_types.specs.Hooks.{maker}
use Rattle.split_types.specs.Requests.{queued, in_flight}
use Rattle.split_types.specs.Pages.{is_dirty}
use Rattle.split_types.specs.HeldPages.{known_pages}
use Rattle.split_types.specs.Workloads.{processes, bound}
use Rattle.split_types.specs.Calls.{is_finished}
use Rattle.split_types.specs.Transactions.{marked_buffers, in_journal}
use Rattle.split_types.specs.Next.{next}

-- each event is the next one of its actor after the events before it
abbrev pub IsLegal : Workload → List Event → Type 0
IsLegal w [] = Unit {0}
IsLegal w (h ▹ e) = (next w h (maker e) ≡ Some e) × IsLegal w h

-- all calls have returned, no request is queued or in flight, no page is dirty, no buffer of metadata is marked, and no
-- transaction is in the journal
abbrev pub is_drained : Workload → List Event → Bool
is_drained w h =
    list_all (is_finished w h) (processes w)
    && length (queued h) == 0
    && length (in_flight h) == 0
    && not (list_any (is_dirty w h) (known_pages h))
    && length (marked_buffers h) == 0
    && length (in_journal h) == 0

-- the next event of the first of these actors that has one
abbrev pub first_next : Workload → List Event → List Actor → Option Event
first_next w h [] = None
first_next w h (a ∷ actors) = elim (next w h a) [ Some e ↦ Some e | None ↦ first_next w h actors ]

-- the order in which the actors are asked
abbrev pub turn_order : Workload → List Actor
turn_order w = map (λ p. Client (record { 0 = p })) (processes w) ++ Wb ∷ Cm ∷ Dq ∷ Dn 0 ∷ Tk ∷ []

-- the event that drains a history by one more step; none where it is drained
abbrev pub turn : Workload → List Event → Option Event
turn w h = if is_drained w h then None else first_next w h (turn_order w)

-- h after so many turns, or fewer where it is drained before
abbrev pub drained_for : ℕ → Workload → List Event → List Event
drained_for zero w h = h
drained_for (suc n) w h = elim (turn w h) [ None ↦ h | Some e ↦ drained_for n w (h ▹ e) ]

-- h after as many turns as it takes to drain it
abbrev pub drain : Workload → List Event → List Event
drain w h = drained_for (bound w) w h

-- h after the listed actors acted in turn; one without a next event is passed over
abbrev pub play : Workload → List Event → List Actor → List Event
play w h [] = h
play w h (a ∷ actors) = elim (next w h a) [ None ↦ play w h actors | Some e ↦ play w (h ▹ e) actors ]

-- the actors of the `go` lines, each as often as its line says
abbrev pub go_actors : Workload → List Actor
go_actors w = flat_map (λ g. replicate g.times g.actor) w.go
