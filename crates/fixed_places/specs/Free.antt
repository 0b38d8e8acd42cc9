-- Which of a fixed number of places are taken.
use Rattle.std.specs.Prelude.{◌≡◌, ◌≢◌, ℕ, ◌+◌, ◌-◌, ◌^◌, ◌<◌, ◌≤◌, Bool, true, false, List, length, slice_index, slice_index_or, count_by}

-- which places are taken, and the free one that is taken next, if any is free
pub record Free : Type 0 where
  pub taken : List Bool
  pub next : ℕ

-- the place given back last, or else the first that was never taken
abbrev pub next_of : ℕ → List ℕ → ℕ
next_of used returned = slice_index_or returned (length returned - 1) used

-- the places that were given back are apart, were used and aren't taken, no place is taken that wasn't used,
-- each used one is taken or was given back, and there is room for all
pub record AreFree (taken : List Bool) (used : ℕ) (returned : List ℕ) (count room : ℕ) : Type 0 where
  pub few : length taken ≤ 2 ^ 32
  pub within : used ≤ length taken
  pub unused : (i : ℕ) → used ≤ i → slice_index_or taken i false ≡ false
  pub free : (k : ℕ) → k < length returned → slice_index_or taken (slice_index returned k) false ≡ false
  pub seen : (k : ℕ) → k < length returned → slice_index returned k < used
  pub apart : (k j : ℕ) → k < j → j < length returned → slice_index returned k ≢ slice_index returned j
  pub counted : count ≡ count_by (λ place. place) taken
  pub each : used ≡ count + length returned
  pub enough : length taken ≤ room
