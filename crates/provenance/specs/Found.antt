-- What a search finds, as a list.
use Rattle.std.specs.Prelude.{ℕ, List, [], ◌∷◌, Option, Some, None}
use Rattle.split_types.specs.declared.ids.Pid.{Pid}
use Rattle.split_types.specs.declared.ids.Txn.{Txn}
use Rattle.split_types.specs.declared.event.Event.{Event}
use Rattle.split_types.specs.declared.event.Event.TheVariants.{Seal}
use Rattle.split_types.specs.History.{event_at, older}
use Rattle.split_types.specs.Rounds.{Sealing}

-- the place that was found, if any
abbrev pub listed : Option ℕ → List ℕ
listed None = []
listed (Some place) = place ∷ []

-- the number of the process that was found, if any
abbrev pub numbers : Option Pid → List ℕ
numbers None = []
numbers (Some p) = p.0 ∷ []

-- the transaction of a seal; 0 is none
abbrev pub sealed_txn : Option Event → Txn
sealed_txn (Some (Seal t k)) = t
sealed_txn _ = record { 0 = 0 }

-- the seal at a place, with the history before it
abbrev pub sealing_at : List Event → ℕ → Sealing
sealing_at h i = record { txn = sealed_txn (event_at h i); before = older h i }
