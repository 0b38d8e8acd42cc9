-- Fields of a block: what stands at a place, and what a write leaves.
use Rattle.std.specs.Prelude.{ℕ, ◌+◌, List, [], ◌∷◌, ◌++◌, length, take, drop, slice_index}
use Rattle.std.specs.Int.{w32, from_le_bytes}

-- the number of the four bytes at a place
abbrev pub number_at : List ℕ → ℕ → ℕ
number_at bytes at =
    from_le_bytes w32
    (slice_index bytes at ∷ slice_index bytes (at + 1) ∷ slice_index bytes (at + 2) ∷ slice_index bytes (at + 3) ∷ [])

-- a block after these bytes were written from a place on
abbrev pub with_bytes : List ℕ → ℕ → List ℕ → List ℕ
with_bytes block at bytes = take at block ++ bytes ++ drop (at + length bytes) block
