-- What the bills that are kept have to do with a history.
use Rattle.std.specs.Prelude.{◌≡◌, ℕ, ◌+◌, ◌<◌, List, length, slice_index}
use Rattle.split_types.specs.declared.workload.Workload.{Workload}
use Rattle.split_types.specs.declared.event.Event.{Event}
use Rattle.split_types.specs.Bills.{billed}
use Rattle.split_core.specs.declared.note.money.Money.{Money}

pub record MoneyStands (w : Workload) (m : Money) (h : List Event) : Type 0 where
  pub payers : length m.billed.items ≡ length w.procs
  pub billed_are : (i : ℕ) → i < length w.procs → slice_index m.billed.items i ≡ billed w h (i + 1)
