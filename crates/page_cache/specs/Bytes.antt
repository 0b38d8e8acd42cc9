-- The bytes of a page.
use Rattle.std.specs.Prelude.{ℕ, ◌-◌, ◌≤◌, List, ◌++◌, take, drop, replicate}

-- bytes of which those from one place on up to another are all the same, and the others as they were
abbrev pub filled : List ℕ → ℕ → ℕ → ℕ → List ℕ
filled bytes from to byte = take from bytes ++ replicate (to - from) byte ++ drop to bytes

-- a page of zeros
unfoldable pub zeros : List ℕ
zeros = replicate 4096 0

-- a page of one byte, but for another from one place on up to another
abbrev pub patched : ℕ → ℕ → ℕ → ℕ → List ℕ
patched base from to byte = replicate from base ++ replicate (to - from) byte ++ replicate (4096 - to) base

-- these places are in order, and in a page
pub record IsPatch (from to : ℕ) : Type 0 where
  pub order : from ≤ to
  pub within : to ≤ 4096
