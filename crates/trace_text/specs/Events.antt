-- The events of a trace.
use Rattle.std.specs.Prelude.{◌≡◌, ℕ, ◌+◌, ◌<◌, List, [], ◌++◌, length, reverse, Result, Ok, Err}
use Rattle.std.specs.Borrow.{Bor}
use Rattle.split_types.specs.declared.event.Event.{Event}
use Rattle.split_types.specs.History.{◌▹◌, adds}
use Rattle.split_types.specs.Lines.{lines_of}
use Rattle.split_types.specs.EventText.{event_words}
use Rattle.workload_reader.specs.declared.cause.Cause.{Cause}
use Rattle.workload_reader.specs.declared.fault.ReadWorkload.{ReadWorkload}
use Rattle.workload_reader.specs.declared.fault.ReadWorkload.TheVariants as fault
use Rattle.trace_text.specs.ReadsEvent.{HasLine, StopsEvent}

-- each event of a history, whose newest stands first, has a line behind those before it
abbrev pub HaveLines : ℕ → List Event → Type 0
HaveLines most [] = Unit {0}
HaveLines most (h ▹ e) = HaveLines most h × HasLine most (adds h) e

-- so many lines of events stand at the front of a text, from the oldest on, and what follows them
pub record EventsAt (text : List ℕ) (most count : ℕ) (events : List Event) (rest : List ℕ) : Type 0 where
  pub lines : HaveLines most (reverse events)
  pub number : length events ≡ count
  pub text_is : text ≡ lines_of event_words events ++ rest

-- the first line that is refused among so many of events: behind so many that are none
pub record EventRefused (text : List ℕ) (most count before : ℕ) (c : Cause) : Type 0 where
  pub events : List Event
  pub rest : List ℕ
  pub read : EventsAt text most before events rest
  pub more : before < count
  pub stops : StopsEvent most (adds (reverse events)) rest c

-- so many events from the line of number first on, or which line of them is refused first
abbrev pub ReadsEvents : List ℕ → ℕ → ℕ → ℕ → Result (List Event × Bor (List ℕ)) ReadWorkload → Type 0
ReadsEvents text first most count (Ok r) = EventsAt text most count r.0 r.1.now
ReadsEvents text first most count (Err (fault.Line f)) = (before : ℕ) × (first + before ≡ f.line)
    × EventRefused text most count before f.cause
ReadsEvents text first most count (Err fault.Memory) = Unit {0}
