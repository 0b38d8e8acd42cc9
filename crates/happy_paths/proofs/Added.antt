-- Where an event adds a request, one was added.
use Rattle.std.proofs.Common.{◌≡◌, ℕ, ◌<◌, ◌≤◌, ◌==◌, List, [], length, Bool, true, false, Some, arith, sym, subst}
use Rattle.std.proofs.Common.{if◌then◌else◌}
use Rattle.split_types.specs.declared.actor.Actor.{Actor}
use Rattle.split_types.specs.declared.request.Request.{Request}
use Rattle.split_types.specs.declared.event.Event.{Event}
use Rattle.split_types.specs.declared.event.Event.TheVariants.{Add}
use Rattle.split_types.specs.History.{◌▹◌, adds, event_at}

more : (h : List Event) (e : Event) → adds h ≤ adds (h ▹ e)
more h (Add by r) = omega arith
more h e = omega arith

pub added : (h : List Event) (i : ℕ) (by : Actor) (r : Request) → event_at h i ≡ Some (Add by r) → 0 < adds h
added [] i by r at = absurd (cc (at))
added (h ▹ e) i by r at = by_place (i == length h) at (λ is. added h i by r is)
  where
    by_place : (b : Bool) → (if b then Some e else event_at h i) ≡ Some (Add by r)
        → (event_at h i ≡ Some (Add by r) → 0 < adds h) → 0 < adds (h ▹ e)
    by_place true is before = let same : e ≡ Add by r = cc in subst (λ x. 0 < adds (h ▹ x)) (sym same) (omega arith)
    by_place false is before = omega (arith, before is, more h e)
