-- What reading the line of an event gives.
use Rattle.std.specs.Prelude.{◌≡◌, ◌≢◌, ℕ, List, ◌++◌, true, false, Result, Ok, Err}
use Rattle.std.specs.Borrow.{Bor}
use Rattle.split_types.specs.declared.event.Event.{Event}
use Rattle.workload_reader.specs.declared.cause.Cause.{Cause}
use Rattle.workload_reader.specs.declared.cause.Cause.TheVariants as cause
use Rattle.workload_reader.specs.Refusal.{has_newline}
use Rattle.trace_text.specs.EventLines.{EventLine, Shown, text_line, IsFormed, IsInRange}

-- an event that may stand behind so many added requests, with its numbers in their ranges
pub record HasLine (most adds : ℕ) (e : Event) : Type 0 where
  pub formed : IsFormed adds (Shown e)
  pub range : IsInRange most (Shown e)

-- why no event's line stands at the front of a text: it is none; or it isn't whole; or a number of it is out of its
-- range
abbrev pub StopsEvent : ℕ → ℕ → List ℕ → Cause → Type 0
StopsEvent most adds text cause.Form = (has_newline text ≡ true)
    × ((l : EventLine) (rest : List ℕ) → IsFormed adds l → text ≢ text_line l ++ rest)
StopsEvent most adds text cause.Cut = has_newline text ≡ false
StopsEvent most adds text cause.Range = (l : EventLine) × (rest : List ℕ) × IsFormed adds l
    × (text ≡ text_line l ++ rest) × (IsInRange most l → ⊥)
StopsEvent most adds text c = ⊥

-- an event's line stands at the front, and this follows it; or why none does
abbrev pub ReadsEvent : ℕ → ℕ → List ℕ → Result (Event × Bor (List ℕ)) Cause → Type 0
ReadsEvent most adds text (Ok r) = HasLine most adds r.0 × (text ≡ text_line (Shown r.0) ++ r.1.now)
ReadsEvent most adds text (Err c) = StopsEvent most adds text c
