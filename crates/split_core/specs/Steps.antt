-- What a step of the core does.
use Rattle.std.specs.Prelude.{◌≡◌, ℕ, ◌<◌, List, [], ◌∷◌, length, map, drop, true, Some, None}
use Rattle.split_types.specs.declared.workload.Workload.{Workload}
use Rattle.split_types.specs.declared.actor.Actor.{Actor}
use Rattle.split_types.specs.declared.actor.Actor.TheVariants.{Client, Wb, Cm, Dq, Dn, Tk}
use Rattle.split_types.specs.declared.event.Event.{Event}
use Rattle.split_types.specs.History.{◌▹◌}
use Rattle.split_types.specs.Workloads.{processes, bound}
use Rattle.split_types.specs.Next.{next}
use Rattle.split_types.specs.Legal.{first_next, turn, is_drained}
use Rattle.split_core.specs.declared.step.Step.{Step}
use Rattle.split_core.specs.declared.step.Step.TheVariants.{Made, Idle}
use Rattle.split_core.specs.StandsFor.{Simulation}

-- process p
abbrev pub client : ℕ → Actor
client p = Client (record { 0 = p })

-- the processes behind so many
abbrev pub clients_from : Workload → ℕ → List Actor
clients_from w behind = map client (drop behind (processes w))

-- the actors that are asked behind the processes
abbrev pub others : List Actor
others = Wb ∷ Cm ∷ Dq ∷ Dn 0 ∷ Tk ∷ []

-- the event was appended, at this place, below the bound
pub record Appends (old new : Simulation) (e : Event) (i : ℕ) : Type 0 where
  pub appended : new ≡ (let s : Simulation = record { workload = old.workload; history = old.history ▹ e } in s)
  pub place : i ≡ length old.history
  pub below : i < bound old.workload

-- a step of an actor makes its next event, and is idle exactly where it has none
abbrev pub StepsTo : Actor → Simulation → Simulation → Step → Type 0
StepsTo a old new (Made i) = (e : Event) × (next old.workload old.history a ≡ Some e) × Appends old new e i
StepsTo a old new Idle = (next old.workload old.history a ≡ None) × (new ≡ old)

-- a step of the first of these actors that has a next event makes it, and is idle exactly where none has one
abbrev pub FirstStepsTo : List Actor → Simulation → Simulation → Step → Type 0
FirstStepsTo actors old new (Made i) =
    (e : Event) × (first_next old.workload old.history actors ≡ Some e) × Appends old new e i
FirstStepsTo actors old new Idle = (first_next old.workload old.history actors ≡ None) × (new ≡ old)

-- a turn makes the event that drains the history by one step, and is idle exactly where it is drained
abbrev pub TurnsTo : Simulation → Simulation → Step → Type 0
TurnsTo old new (Made i) = (e : Event) × (turn old.workload old.history ≡ Some e) × Appends old new e i
TurnsTo old new Idle = (is_drained old.workload old.history ≡ true) × (new ≡ old)
