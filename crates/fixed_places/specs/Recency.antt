-- When places were touched, as far as order goes.
use Rattle.std.specs.Prelude.{◌≡◌, ◌≢◌, ℕ, ◌^◌, ◌<◌, ◌≤◌, Bool, true, false, List, length, slice_index, slice_index_or, Option, Some, None, IfSome}

-- a number for each place, of which the later touched has the greater, and whether it is a candidate
pub record Touched : Type 0 where
  pub touches : List ℕ
  pub candidates : List Bool

-- a place comes to be the one touched last, and the others stay in order
pub record IsTouched (old new : List ℕ) (at : ℕ) : Type 0 where
  pub len : length new ≡ length old
  pub last : (i : ℕ) → i < length old → i ≢ at → slice_index new i < slice_index new at
  pub order : (i j : ℕ) → i < length old → j < length old → i ≢ at → j ≢ at → slice_index old i < slice_index old j
      → slice_index new i < slice_index new j

-- the candidate touched longest ago
pub record IsOldest (places : Touched) (at : ℕ) : Type 0 where
  pub within : at < length places.touches
  pub candidate : slice_index_or places.candidates at false ≡ true
  pub oldest : (i : ℕ) → slice_index_or places.candidates i false ≡ true
      → slice_index places.touches at ≤ slice_index places.touches i

abbrev pub NoCandidate : Touched → Type 0
NoCandidate places = (i : ℕ) → slice_index_or places.candidates i false ≡ false

-- all numbers are below the next one, and the candidates are kept under theirs
pub record IsRecency (touches : List ℕ) (next : ℕ) (candidates : List (Option ℕ)) (others : List ℕ) : Type 0 where
  pub some : 0 < length touches
  pub few : length touches ≤ 2 ^ 32
  pub candidates_len : length candidates ≡ length touches
  pub others_len : length others ≡ length touches
  pub below : (i : ℕ) → i < length touches → slice_index touches i < next
  pub kept : (i : ℕ) → IfSome (slice_index_or candidates i None) (λ touch. touch ≡ slice_index touches i)

-- numbers in the same order
abbrev pub KeepsOrder : List ℕ → List ℕ → Type 0
KeepsOrder old new = (i j : ℕ) → i < length old → j < length old → slice_index old i < slice_index old j
    → slice_index new i < slice_index new j

-- a candidate under another number
abbrev pub rekeyed : ℕ → Option ℕ → Option ℕ
rekeyed touch None = None
rekeyed touch (Some _) = Some touch

abbrev pub AreRekeyed : List (Option ℕ) → List (Option ℕ) → List ℕ → Type 0
AreRekeyed old new touches = (i : ℕ) → i < length old → slice_index_or new i None
    ≡ rekeyed (slice_index touches i) (slice_index_or old i None)
