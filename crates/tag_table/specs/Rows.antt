-- The rows of a table, by number.
use Rattle.std.specs.Prelude.{◌≡◌, ℕ, ◌≤◌, List, length, Option, Some, None, slice_index_or}
use Rattle.std.specs.Option.{option_map}
use Rattle.tag_table.specs.declared.row.Row.{Row}
use Rattle.tag_table.specs.declared.set_key.SetKey.{SetKey}

-- the row or nothing at each number, and for how many more there is room
pub record Numbered : Type 0 where
  pub rows : List (Option Row)
  pub spare : ℕ

-- the row of a number
abbrev pub row_at : List (Option Row) → ℕ → Option Row
row_at rows n = slice_index_or rows n None

-- the set of a number's row
abbrev pub set_at : List (Option Row) → ℕ → Option (List ℕ)
set_at rows n = option_map (λ row. row.set) (row_at rows n)

-- the number has a row with this set
abbrev pub HasSet : List (Option Row) → List ℕ → ℕ → Type 0
HasSet rows set n = set_at rows n ≡ Some set

-- no number has a row with this set
abbrev pub HasNoSet : List (Option Row) → List ℕ → Type 0
HasNoSet rows set = (n : ℕ) → HasSet rows set n → ⊥

-- no set has two rows
abbrev pub AreDistinct : List (Option Row) → Type 0
AreDistinct rows = (set : List ℕ) (m n : ℕ) → HasSet rows set m → HasSet rows set n → m ≡ n

-- a set as a key
abbrev pub key_of : List ℕ → SetKey
key_of set = record { 0 = set }

-- what holds of rows: the index has the set of each row at the row's number, and a place for each row that may
-- come; no set has two rows
pub record AreIndexed (rows : List (Option Row)) (index : List (Option SetKey)) (capacity : ℕ) : Type 0 where
  pub indexed : (n : ℕ) → slice_index_or index n None ≡ option_map key_of (set_at rows n)
  pub distinct : AreDistinct rows
  pub places : capacity ≤ length index
