-- One line, read and judged.
use Rattle.std.specs.Prelude.{◌≡◌, ℕ, List, ◌++◌, true, Result, Ok, Err}
use Rattle.std.specs.Borrow.{Bor}
use Rattle.split_types.specs.declared.workload.Workload.{Workload}
use Rattle.workload_reader.specs.declared.cause.Cause.{Cause}
use Rattle.workload_reader.specs.declared.line.Line.{Line}
use Rattle.workload_reader.specs.Line.{IsFormed, place, stands, text_line}
use Rattle.workload_reader.specs.declared.seen.Seen.{Seen}
use Rattle.workload_reader.specs.Adding.{Adds}
use Rattle.workload_reader.specs.Refusal.{Stops}
use Rattle.workload_reader.specs.Table.{IsRight}

-- a line that is right stands at the front of the text, and rest follows it
pub record TakesLine (w : Workload) (stage : ℕ) (text : List ℕ) (l : Line) (rest : List ℕ) : Type 0 where
  pub formed : IsFormed l
  pub may : stands stage (place l) ≡ true
  pub right : IsRight w l
  pub text_is : text ≡ text_line l ++ rest

abbrev pub Judges : Workload → ℕ → List ℕ → Result (Line × Bor (List ℕ)) Cause → Type 0
Judges w stage text (Ok r) = TakesLine w stage text r.0 r.1.now
Judges w stage text (Err c) = Stops w stage text c

-- what was seen has one line more, behind which the rest follows
pub record TookLine (old new : Seen) (text rest : List ℕ) : Type 0 where
  pub l : Line
  pub takes : TakesLine old.workload old.stage text l rest
  pub adds : Adds old new l

abbrev pub Takes : Seen → Seen → List ℕ → Result (Bor (List ℕ)) Cause → Type 0
Takes old new text (Ok rest) = TookLine old new text rest.now
Takes old new text (Err c) = Stops old.workload old.stage text c
