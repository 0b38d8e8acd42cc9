-- What contracts see of an allocation: what each block is used for, and how many free blocks are promised.
use Rattle.std.specs.Prelude.{◌≡◌, ◌≢◌, ◌⊎◌, ℕ, ◌+◌, ◌-◌, ◌<◌, ◌≤◌, ◌==◌, Bool, true, false, List, ◌++◌, length, replicate, count_by, slice_get, Option, Some, if◌then◌else◌}
use Rattle.split_types.specs.declared.ids.Txn.{Txn}

-- a block is taken, free, or waits for a transaction to be committed
pub data State : Type 0 where
  Taken : State
  Free : State
  Waiting : Txn → State

-- the blocks by number, and the number of free blocks that are reserved
pub record Blocks : Type 0 where
  pub states : List State
  pub reserved : ℕ

-- what a block is used for; nothing past the end of the disk
abbrev pub state_at : Blocks → ℕ → Option State
state_at a block = slice_get a.states block

abbrev pub is_free : State → Bool
is_free Free = true
is_free _ = false

-- the number of free blocks
abbrev pub free_count : Blocks → ℕ
free_count a = count_by is_free a.states

-- the first blocks are taken, and the others free
abbrev pub new_blocks : ℕ → ℕ → Blocks
new_blocks device taken = record { states = replicate taken Taken ++ replicate (device - taken) Free; reserved = 0 }

-- the run begins at the least free block, and is the longest of free blocks from there on that has at most n
pub record IsLeastRun (a : Blocks) (n first m : ℕ) : Type 0 where
  pub some : 1 ≤ m
  pub most : m ≤ n
  pub free : (block : ℕ) → first ≤ block → block < first + m → state_at a block ≡ Some Free
  pub least : (block : ℕ) → state_at a block ≡ Some Free → first ≤ block
  pub longest : (m ≡ n) ⊎ (state_at a (first + m) ≢ Some Free)

-- the run is taken, all other blocks stay, and it had been promised
pub record TakesRun (old new : Blocks) (first m : ℕ) : Type 0 where
  pub blocks : length new.states ≡ length old.states
  pub run : (block : ℕ) → first ≤ block → block < first + m → state_at new block ≡ Some Taken
  pub others : (block : ℕ) → (block < first) ⊎ (first + m ≤ block) → state_at new block ≡ state_at old block
  pub promised : new.reserved + m ≡ old.reserved

-- what becomes of a block when a transaction is committed
abbrev pub settled : Txn → State → State
settled t Taken = Taken
settled t Free = Free
settled t (Waiting u) = if u.0 == t.0 then Free else Waiting u
