-- How the blocks lie in memory: the free ones and the waiting ones as sets of bits, and beside them for each block the
-- transaction that it waits for, if it waits.
use Rattle.std.specs.Prelude.{◌≡◌, ℕ, ◌*◌, ◌^◌, ◌<◌, ◌≤◌, true, false, List, length, map, count_by, slice_index_or, if◌then◌else◌}
use Rattle.std.specs.List.{range_with_len}
use Rattle.split_types.specs.declared.ids.Txn.{Txn}
use Rattle.delayed_alloc.specs.Bits.{is_set}
use Rattle.delayed_alloc.specs.Blocks.{State, Taken, Free, Waiting, is_free}

-- what a block is used for where it isn't free
abbrev pub unfree_state : List ℕ → List Txn → ℕ → State
unfree_state waits txns block = if is_set waits block
    then Waiting (slice_index_or txns block (record { 0 = 0 })) else Taken

abbrev pub state_of : List ℕ → List ℕ → List Txn → ℕ → State
state_of words waits txns block = if is_set words block then Free else unfree_state waits txns block

abbrev pub states_of : List ℕ → List ℕ → List Txn → List State
states_of words waits txns = map (state_of words waits txns) (range_with_len 0 (length txns))

-- no block beyond the last is free or waits, none that is free waits, and enough are free for all that is promised
pub record AreHeld (words waits : List ℕ) (txns : List Txn) (unused reserved : ℕ) : Type 0 where
  pub few : length txns < 2 ^ 32
  pub room : length txns ≤ 64 * length words
  pub waits_room : length txns ≤ 64 * length waits
  pub outside : (block : ℕ) → length txns ≤ block → is_set words block ≡ false
  pub waits_outside : (block : ℕ) → length txns ≤ block → is_set waits block ≡ false
  pub apart : (block : ℕ) → is_set words block ≡ true → is_set waits block ≡ false
  pub counted : unused ≡ count_by is_free (states_of words waits txns)
  pub enough : reserved ≤ unused
