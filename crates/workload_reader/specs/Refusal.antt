-- Which line of a text is refused first, and why.
use Rattle.std.specs.Prelude.{◌≡◌, ◌≢◌, ℕ, ◌+◌, ◌<◌, ◌≤◌, ◌==◌, List, [], ◌∷◌, ◌++◌, length, Bool, true, false}
use Rattle.std.specs.List.{list_any}
use Rattle.split_types.specs.declared.workload.Workload.{Workload}
use Rattle.workload_reader.specs.declared.cause.Cause.{Cause}
use Rattle.workload_reader.specs.declared.cause.Cause.TheVariants as cause
use Rattle.workload_reader.specs.declared.fault.LineFault.{LineFault}
use Rattle.workload_reader.specs.declared.line.Line.{Line}
use Rattle.workload_reader.specs.Line.{IsFormed, place, stands, stage, has_ended, text_line, lines_text, said}
use Rattle.workload_reader.specs.Table.{IsRight, Fails}

-- each line, of which the last stands first, is right by what those before it say
abbrev pub AreRight : List Line → Type 0
AreRight [] = Unit {0}
AreRight (l ∷ before) =
    AreRight before × IsFormed l × (stands (stage before) (place l) ≡ true) × IsRight (said before) l

abbrev pub has_newline : List ℕ → Bool
has_newline bytes = list_any (λ b. b == 10) bytes

-- why no line follows at the front of these bytes, given what the lines before say: it is none of the lines that may
-- stand here; or it isn't whole; or it is one, and this is the first thing that is wrong with it
abbrev pub Stops : Workload → ℕ → List ℕ → Cause → Type 0
Stops w stage bytes cause.Form =
    (has_newline bytes ≡ true)
    × ((l : Line) (rest : List ℕ) → IsFormed l → stands stage (place l) ≡ true → bytes ≢ text_line l ++ rest)
Stops w stage bytes cause.Cut = has_newline bytes ≡ false
Stops w stage bytes cause.After = ⊥
Stops w stage bytes cause.Long = ⊥
Stops w stage bytes c =
    (l : Line) × (rest : List ℕ) × IsFormed l × (stands stage (place l) ≡ true) × (bytes ≡ text_line l ++ rest)
    × Fails w l c

-- the lines of a workload up to `end`, at the front of a text, and what follows them
pub record ReadsFront (text : List ℕ) (w : Workload) (lines : ℕ) (rest : List ℕ) : Type 0 where
  pub before : List Line
  pub right : AreRight before
  pub ended : has_ended before ≡ true
  pub said_is : said before ≡ w
  pub number : length before ≡ lines
  pub text_is : text ≡ lines_text before ++ rest

-- the first line that is refused among those of a workload at the front of a text: so many lines before it are right
pub record RefusesFront (text : List ℕ) (lines : ℕ) (c : Cause) : Type 0 where
  pub before : List Line
  pub rest : List ℕ
  pub right : AreRight before
  pub going : has_ended before ≡ false
  pub number : length before ≡ lines
  pub text_is : text ≡ lines_text before ++ rest
  pub stops : Stops (said before) (stage before) rest c

-- bytes follow the lines of a workload
pub record GoesOn (text : List ℕ) (lines : ℕ) : Type 0 where
  pub w : Workload
  pub rest : List ℕ
  pub front : ReadsFront text w lines rest
  pub some : 0 < length rest

-- the first refusal of a text: that it is too long; or that something follows its last line; or that of a line
abbrev pub Refuses : List ℕ → LineFault → Type 0
Refuses text f = by_cause f.line f.cause where
  by_cause : ℕ → Cause → Type 0
  by_cause line cause.Long = (line ≡ 0) × (16777216 < length text)
  by_cause line cause.After = (length text ≤ 16777216) × ((lines : ℕ) × (line ≡ lines + 1) × GoesOn text lines)
  by_cause line c = (length text ≤ 16777216) × ((lines : ℕ) × (line ≡ lines + 1) × RefusesFront text lines c)
