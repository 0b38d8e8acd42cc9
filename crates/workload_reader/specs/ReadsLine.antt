-- What was read of a whole line.
use Rattle.std.specs.Prelude.{◌≡◌, ◌≢◌, ℕ, List, ◌++◌, true, Option, Some, None, Result}
use Rattle.std.specs.Borrow.{Bor}
use Rattle.split_types.specs.declared.workload.Workload.{Workload}
use Rattle.workload_reader.specs.declared.cause.Cause.{Cause}
use Rattle.workload_reader.specs.declared.line.Line.{Line}
use Rattle.workload_reader.specs.Line.{IsFormed, place, stands, text_line}
use Rattle.workload_reader.specs.Table.{InRange, Refers}
use Rattle.workload_reader.specs.Weighed.{Weighed}

-- a line that may stand here, weighed by what the lines before it say, and the text that follows it; or none of
-- those lines
abbrev pub ReadsLine : Workload → ℕ → List ℕ → Option (Result Line Cause × Bor (List ℕ)) → Type 0
ReadsLine w stage text None =
    (l : Line) (rest : List ℕ) → IsFormed l → stands stage (place l) ≡ true → text ≢ text_line l ++ rest
ReadsLine w stage text (Some r) =
    (l : Line) × IsFormed l × (stands stage (place l) ≡ true) × (text ≡ text_line l ++ r.1.now)
    × Weighed (InRange w) (Refers w) l r.0
