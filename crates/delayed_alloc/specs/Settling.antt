-- What becomes of some of the blocks when a transaction is committed.
use Rattle.std.specs.Prelude.{◌≡◌, ◌⊎◌, ℕ, ◌<◌, ◌≤◌, Bool, true, false, length, slice_index_or}
use Rattle.split_types.specs.declared.ids.Txn.{Txn}
use Rattle.delayed_alloc.specs.Blocks.{State, Blocks, Taken, Waiting, settled}

-- the blocks from the first up to the end are settled, all others stay, and so do the promises
pub record SettlesRun (t : Txn) (old new : Blocks) (first end : ℕ) : Type 0 where
  pub blocks : length new.states ≡ length old.states
  pub run : (block : ℕ) → first ≤ block → block < end
      → slice_index_or new.states block Taken ≡ settled t (slice_index_or old.states block Taken)
  pub others : (block : ℕ) → (block < first) ⊎ (end ≤ block)
      → slice_index_or new.states block Taken ≡ slice_index_or old.states block Taken
  pub promised : new.reserved ≡ old.reserved

abbrev pub is_waiting : State → Bool
is_waiting (Waiting t) = true
is_waiting _ = false

-- the block waits for a transaction
abbrev pub waits_at : Blocks → ℕ → Bool
waits_at a block = is_waiting (slice_index_or a.states block Taken)
