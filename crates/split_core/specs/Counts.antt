-- What the counts of events that are kept have to do with a history.
use Rattle.std.specs.Prelude.{◌≡◌, ℕ, ◌+◌, ◌-◌, ◌≤◌, List, length, slice_index}
use Rattle.split_types.specs.declared.actor.Actor.{Actor}
use Rattle.split_types.specs.declared.actor.Actor.TheVariants.{Client, Wb, Cm, Dq, Dn, Tk}
use Rattle.split_types.specs.declared.workload.Workload.{Workload}
use Rattle.split_types.specs.declared.event.Event.{Event}
use Rattle.split_types.specs.FactsOf.{made}
use Rattle.split_core.specs.declared.note.counts.Counts.{Counts}

-- the place of an actor's count, behind those of so many processes
abbrev pub place_of : ℕ → Actor → ℕ
place_of n (Client p) = p.0 - 1
place_of n Wb = n
place_of n Cm = n + 1
place_of n Dq = n + 2
place_of n (Dn k) = n + 3
place_of n Tk = n + 4

-- a process that acts is one of so many
abbrev pub IsActor : ℕ → Actor → Type 0
IsActor n (Client p) = (1 ≤ p.0) × (p.0 ≤ n)
IsActor n _ = Unit {0}

pub record CountsStand (w : Workload) (c : Counts) (h : List Event) : Type 0 where
  pub actors : length c.made.items ≡ length w.procs + 5
  pub made_are : (a : Actor) → IsActor (length w.procs) a
      → slice_index c.made.items (place_of (length w.procs) a) ≡ made h a
