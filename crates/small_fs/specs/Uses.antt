-- How many pages have a block.
use Rattle.std.specs.Prelude.{◌≡◌, ℕ, ◌≤◌, List, length, Bool, ◌||◌, nat_lt, false, count_by, sum_by, slice_index, slice_index_or, Option, Some, None, if◌then◌else◌}
use Rattle.split_types.specs.LiveFiles.{LiveFile, Slots, maps_to}
use Rattle.small_fs.specs.declared.uses.Uses.TheInside.{Inside}

-- the block where data begins, and of each block how many pages have it
pub record Counts : Type 0 where
  pub first : ℕ
  pub pages : List ℕ

abbrev pub counts_of : Inside → Counts
counts_of u = record { first = u.first; pages = u.pages.items }

-- a block is used where it lies before the data, or where some page has it
abbrev pub is_counted : Counts → ℕ → Bool
is_counted c block = nat_lt block c.first || nat_lt 0 (slice_index c.pages block)

-- there is a number for each block of the largest disk, and the bits say which are used
pub record AreCounts (u : Inside) : Type 0 where
  pub blocks : length u.pages.items ≡ 32768
  pub bits_len : length u.bits ≡ 32768
  pub before : u.first ≤ 32768
  pub bits : (block : ℕ) → slice_index_or u.bits block false ≡ is_counted (counts_of u) block

-- a page that has this block, or none, has the other once or not at all
abbrev pub use_of : ℕ → Option ℕ → ℕ
use_of block has = if maps_to block has then 1 else 0

-- how many pages have a block: of a map, of the file of a slot, and of all files
abbrev pub uses_in : ℕ → List (Option ℕ) → ℕ
uses_in block blocks = count_by (maps_to block) blocks

abbrev pub uses_of : ℕ → Option LiveFile → ℕ
uses_of block None = 0
uses_of block (Some f) = uses_in block f.blocks

abbrev pub all_uses : ℕ → Slots → ℕ
all_uses block slots = sum_by (uses_of block) slots
