-- What draining gives, for every accepted workload and every legal history.
use Rattle.std.specs.Prelude.{◌≡◌, ◌<◌, ◌≤◌, List, length, IsTrue, None}
use Rattle.split_types.specs.declared.actor.Actor.{Actor}
use Rattle.split_types.specs.declared.workload.Workload.{Workload}
use Rattle.split_types.specs.declared.event.Event.{Event}
use Rattle.split_types.specs.Workloads.{bound}
use Rattle.split_types.specs.Accepted.{IsAccepted}
use Rattle.split_types.specs.Legal.{IsLegal, is_drained, first_next, turn_order, drain, play}

-- the history is legal, and no actor need act any more
pub record IsWhole (w : Workload) (h : List Event) : Type 0 where
  pub legal : IsLegal w h
  pub drained : IsTrue (is_drained w h)
  pub short : length h ≤ bound w

-- turns that are taken keep a history legal
abbrev pub PlaysLegal : Type 0
PlaysLegal = (w : Workload) (h : List Event) (actors : List Actor) → IsLegal w h → IsLegal w (play w h actors)

-- a legal history stays below the bound
abbrev pub StaysBelow : Type 0
StaysBelow = (w : Workload) (h : List Event) → IsAccepted w → IsLegal w h → length h < bound w

-- where no actor that is asked in turn has a next event, a legal history is drained
abbrev pub NeverStuck : Type 0
NeverStuck =
    (w : Workload) (h : List Event) → IsAccepted w → IsLegal w h → first_next w h (turn_order w) ≡ None
    → IsTrue (is_drained w h)

-- draining a legal history ends with a legal and drained one
abbrev pub DrainsWhole : Type 0
DrainsWhole = (w : Workload) (h : List Event) → IsAccepted w → IsLegal w h → IsWhole w (drain w h)
