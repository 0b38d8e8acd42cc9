-- The blocks that have one byte at each place, of which there is one for each byte.
use Rattle.std.specs.Prelude.{◌≡◌, ◌⊎◌, ℕ, ◌==◌, List, [], length, slice_index_or, count_by, Bool}
use Rattle.sim_disk.specs.Bytes.{filled}

-- the block of each byte, for how many bytes it isn't made yet, and for how many blocks memory is ready
pub record Stock : Type 0 where
  pub blocks : List (List ℕ)
  pub left : ℕ
  pub ready : ℕ

-- the block of this byte was made
abbrev pub IsMade : List (List ℕ) → ℕ → Type 0
IsMade shared byte = slice_index_or shared byte [] ≡ filled byte

-- nothing is there
abbrev pub is_nothing : List ℕ → Bool
is_nothing block = length block == 0

-- there is a place for each byte, with its block where that was made, and else with nothing; n have nothing
pub record AreFilled (shared : List (List ℕ)) (n : ℕ) : Type 0 where
  pub all : length shared ≡ 256
  pub made : (byte : ℕ) → (slice_index_or shared byte [] ≡ []) ⊎ IsMade shared byte
  pub left : count_by is_nothing shared ≡ n
