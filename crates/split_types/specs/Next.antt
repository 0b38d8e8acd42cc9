-- Next: the one event that an actor may make after a history, or none.
use Rattle.std.specs.Prelude.{ℕ, List, length, slice_get, nat_lt, nat_le, true, not, ◌&&◌, Option, Some, None}
use Rattle.split_types.specs.declared.actor.Actor.{Actor}
use Rattle.split_types.specs.declared.actor.Actor.TheVariants.{Client, Wb, Cm, Dq, Dn, Tk}
use Rattle.split_types.specs.declared.request.Request.{Request}
use Rattle.split_types.specs.declared.workload.Workload.{Workload}
use Rattle.split_types.specs.declared.event.Event.{Event}
use Rattle.split_types.specs.declared.event.Event.TheVariants.{Send, Done}
use Rattle.split_types.specs.Rows.{◌⇒◌∣◌}
use Rattle.split_types.specs.Requests.{in_flight}
use Rattle.split_types.specs.CostAndClock.{head, cost_at}
use Rattle.split_types.specs.Schedulers.{pick}
use Rattle.split_types.specs.Clients.{client_state, next_of_client}
use Rattle.split_types.specs.Serving.{next_of_writeback}
use Rattle.split_types.specs.Committing.{next_of_commit}

-- the send of a request, with its cost
abbrev pub send_of : List Event → Request → Event
send_of h r = Send r.id (cost_at (head h) r.first r.n)

-- the dispatcher's table: where fewer requests than the depth are in flight, the scheduler's pick is sent
abbrev pub next_of_dispatcher : Workload → List Event → Option Event
next_of_dispatcher w h =
    not (nat_lt (length (in_flight h)) w.depth) ⇒ None
    ∣ elim (pick w h) [ None ↦ None | Some r ↦ Some (send_of h r) ]

-- the completion's table: the request at this place in flight is done, and done well
abbrev pub next_of_completion : List Event → ℕ → Option Event
next_of_completion h k = elim (slice_get (in_flight h) k) [ None ↦ None | Some r ↦ Some (Done k r.id true) ]

-- the one event that the actor may make after h, or none
abbrev pub next : Workload → List Event → Actor → Option Event
next w h (Client p) = (nat_le 1 p.0 && nat_le p.0 (length w.procs)) ⇒ next_of_client (client_state w h p) ∣ None
next w h Wb = next_of_writeback w h
next w h Cm = next_of_commit w h
next w h Dq = next_of_dispatcher w h
next w h (Dn k) = next_of_completion h k
next w h Tk = None
