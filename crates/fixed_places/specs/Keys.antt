-- What contracts say of keys by place.
use Rattle.std.specs.Prelude.{◌≡◌, ◌≢◌, ℕ, ◌<◌, List, length, Option, Some, None, slice_index_or}

-- the place has the key, and no other place has it
pub record IsPlaceOf {K : Type 0} (keys : List (Option K)) (key : K) (at : ℕ) : Type 0 where
  pub within : at < length keys
  pub here : slice_index_or keys at None ≡ Some key
  pub only : (i : ℕ) → slice_index_or keys i None ≡ Some key → i ≡ at

-- no place has the key
abbrev pub IsAbsent : {K : Type 0} → List (Option K) → K → Type 0
IsAbsent keys key = (i : ℕ) → slice_index_or keys i None ≢ Some key
