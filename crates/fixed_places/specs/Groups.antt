-- Places in groups: the places of one key lie on each other in a pile, of which a table has the top.
use Rattle.std.specs.Prelude.{◌≡◌, ℕ, ◌^◌, ◌<◌, ◌≤◌, ◌⊎◌, List, length, Option, Some, None, MatchOption, slice_index_or}
use Rattle.fixed_places.specs.Keys.{IsAbsent, IsPlaceOf}

module _ {K : Type 0} (keys : List (Option K)) where
  -- the place has the key
  abbrev pub HasKey : K → ℕ → Type 0
  HasKey key at = slice_index_or keys at None ≡ Some key

  -- the place has the key, and no place of the key lies higher
  pub record IsTop (height : ℕ → ℕ) (key : K) (at : ℕ) : Type 0 where
    pub here : HasKey key at
    pub highest : (i : ℕ) → HasKey key i → height i ≤ height at

  -- what the highest place of the key below a place is; there is none below the lowest
  abbrev pub IsBelow : (ℕ → ℕ) → K → ℕ → Option ℕ → Type 0
  IsBelow height key at None = (i : ℕ) → HasKey key i → height at ≤ height i
  IsBelow height key at (Some below) =
      HasKey key below × (height below < height at) × ((i : ℕ) → HasKey key i → height i < height at
      → height i ≤ height below)

  -- the places of each key lie at heights that differ; each leads to the one below it, and the table has the top
  pub record ArePiles (tops : List (Option K)) (below : List (Option ℕ)) : Type 0 where
    pub few : length keys ≤ 2 ^ 32
    pub tops_len : length tops ≡ length keys
    pub below_len : length below ≡ length keys
    pub height : ℕ → ℕ
    pub top : (i : ℕ) (key : K) → slice_index_or tops i None ≡ Some key → IsTop height key i
    pub topped : (i : ℕ) (key : K) → HasKey key i → IsAbsent tops key → ⊥
    pub apart : (i j : ℕ) (key : K) → HasKey key i → HasKey key j → height i ≡ height j → i ≡ j
    pub next : (i : ℕ) (key : K) → HasKey key i → IsBelow height key i (slice_index_or below i None)

-- what is left of the table where a key was taken out of its place, if it had one
pub record IsLifted {K : Type 0} (tops left : List (Option K)) (key : K) (place : Option ℕ) : Type 0 where
  pub len : length left ≡ length tops
  pub gone : IsAbsent left key
  pub kept : (i : ℕ) (k : K) → slice_index_or left i None ≡ Some k → slice_index_or tops i None ≡ Some k
  pub rest : (i : ℕ) (k : K) → slice_index_or tops i None ≡ Some k → (slice_index_or left i None ≡ Some k) ⊎ (k ≡ key)
  pub was : MatchOption place (IsAbsent tops key) (IsPlaceOf tops key)
