-- What the head and the clock that are kept have to do with a history.
use Rattle.std.specs.Prelude.{◌≡◌, List}
use Rattle.split_types.specs.declared.event.Event.{Event}
use Rattle.split_types.specs.CostAndClock.{head, now}
use Rattle.split_core.specs.declared.note.time.Time.{Time}

pub record TimeStands (t : Time) (h : List Event) : Type 0 where
  pub head_is : t.head ≡ head h
  pub clock_is : t.clock ≡ now h
