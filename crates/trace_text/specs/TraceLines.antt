-- The lines of a trace around those of its workload.
use Rattle.std.specs.Prelude.{◌≡◌, ◌≢◌, ℕ, ◌<◌, ◌≤◌, ◌^◌, List, [], ◌∷◌, ◌++◌, codes, true, false, Bool, Option, Some, None, Result, Ok, Err}
use Rattle.std.specs.Borrow.{Bor}
use Rattle.split_types.specs.Lines.{numeral, line}
use Rattle.split_types.specs.TraceText.{trace_version}
use Rattle.workload_reader.specs.declared.cause.Cause.{Cause}
use Rattle.workload_reader.specs.declared.cause.Cause.TheVariants as cause
use Rattle.workload_reader.specs.Fields.{Keeps, IsWithin}
use Rattle.workload_reader.specs.Refusal.{has_newline}

-- the first line of a trace
abbrev pub first_text : ℕ → List ℕ
first_text version = line (codes "splittrace" ∷ numeral version ∷ [])

-- the first line of a workload
abbrev pub version_text : ℕ → List ℕ
version_text version = line (codes "splitload" ∷ numeral version ∷ [])

-- the line between the workload and the events
abbrev pub count_text : ℕ → List ℕ
count_text n = line (codes "events" ∷ numeral n ∷ [])

-- there are two versions of traces
abbrev pub IsTraceVersion : ℕ → Type 0
IsTraceVersion version = IsWithin 1 2 version

-- why no first line of a trace stands at the front: it is none, or it isn't whole
abbrev pub StopsFirst : List ℕ → Cause → Type 0
StopsFirst text cause.Form = (has_newline text ≡ true)
    × ((version : ℕ) (rest : List ℕ) → IsTraceVersion version → text ≢ first_text version ++ rest)
StopsFirst text cause.Cut = has_newline text ≡ false
StopsFirst text c = ⊥

-- a trace's version, and what follows the line that says so
pub record FirstLine (text : List ℕ) (version : ℕ) (rest : List ℕ) : Type 0 where
  pub version_is : IsTraceVersion version
  pub text_is : text ≡ first_text version ++ rest

abbrev pub ReadsFirst : List ℕ → Result (ℕ × Bor (List ℕ)) Cause → Type 0
ReadsFirst text (Ok r) = FirstLine text r.0 r.1.now
ReadsFirst text (Err c) = StopsFirst text c

-- the version on a workload's first line, which stands at the front; or no such line does
abbrev pub VersionAt : List ℕ → Option ℕ → Type 0
VersionAt text None = (version : ℕ) (rest : List ℕ) → IsWithin 1 3 version → text ≢ version_text version ++ rest
VersionAt text (Some version) = IsWithin 1 3 version × ((rest : List ℕ) × (text ≡ version_text version ++ rest))

-- a workload follows of which no trace of this version is
pub record IsMispaired (version : ℕ) (text : List ℕ) : Type 0 where
  pub other : ℕ
  pub rest : List ℕ
  pub formed : IsWithin 1 3 other
  pub text_is : text ≡ version_text other ++ rest
  pub unlike : trace_version other ≢ version

abbrev pub Mispairs : ℕ → List ℕ → Bool → Type 0
Mispairs version text true = IsMispaired version text
Mispairs version text false = IsMispaired version text → ⊥

-- why no line stands at the front that says how many events follow: it is none, or it isn't whole, or there are too
-- many
abbrev pub StopsCount : List ℕ → Cause → Type 0
StopsCount text cause.Form = (has_newline text ≡ true) × ((n : ℕ) (rest : List ℕ) → text ≢ count_text n ++ rest)
StopsCount text cause.Cut = has_newline text ≡ false
StopsCount text cause.Range = (n : ℕ) × (rest : List ℕ) × (text ≡ count_text n ++ rest) × (2 ^ 32 ≤ n)
StopsCount text c = ⊥

-- how many events follow, and what follows the line that says so
pub record CountLine (text : List ℕ) (n : ℕ) (rest : List ℕ) : Type 0 where
  pub few : n < 2 ^ 32
  pub text_is : text ≡ count_text n ++ rest

abbrev pub ReadsCount : List ℕ → Result (ℕ × Bor (List ℕ)) Cause → Type 0
ReadsCount text (Ok r) = CountLine text r.0 r.1.now
ReadsCount text (Err c) = StopsCount text c

-- the number of a count's line, where it has at most 32 bits; or no such line stands there
abbrev pub CountAt : List ℕ → Option (Option ℕ × Bor (List ℕ)) → Type 0
CountAt text None = (n : ℕ) (rest : List ℕ) → text ≢ count_text n ++ rest
CountAt text (Some r) = (n : ℕ) × (text ≡ count_text n ++ r.1.now) × Keeps (IsWithin 0 4294967295) n r.0
