-- What contracts see of a file system: the file of each slot, and what a call makes of them.
use Rattle.std.specs.Prelude.{ℕ, Option, option_map, slice_set}
use Rattle.split_types.specs.declared.ids.Serial.{Serial}
use Rattle.split_types.specs.declared.ids.Slot.{Slot}
use Rattle.split_types.specs.LiveFiles.{LiveFile, Slots, file_at, free_slot}

-- the block where data begins, the file of each slot, the serial of the next file, and for how many more files there is
-- memory
pub record Files : Type 0 where
  pub first : ℕ
  pub slots : Slots
  pub next : ℕ
  pub spare : ℕ

-- where the next file is made, and its serial: the least free slot, if there is one, and the least serial never used
abbrev pub next_file : Files → Option (Slot × Serial)
next_file fs = option_map (λ s. (record { 0 = s }, record { 0 = fs.next })) (free_slot fs.slots)

-- the slots with another file in a slot, or none; every other slot as before
abbrev pub with_file : ℕ → Option LiveFile → Slots → Slots
with_file s file slots = slice_set slots s file

-- the slots where the file of a slot was changed; every other slot as before
abbrev pub changed : (LiveFile → LiveFile) → ℕ → Slots → Slots
changed change s slots = with_file s (option_map change (file_at slots s)) slots
