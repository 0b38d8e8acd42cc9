-- The file that a call works on, and that of the name that it names.
use Rattle.std.specs.Prelude.{◌≡◌, ℕ, Bool, false, Option, Some, None, is_some, IsSome, if◌then◌else◌}
use Rattle.split_types.specs.declared.ids.Serial.{Serial}
use Rattle.split_types.specs.declared.call.Call.{Call}
use Rattle.split_types.specs.Calls.{name_of}
use Rattle.split_types.specs.LiveFiles.{Slots, file_at, slot_named, slot_of_serial}
use Rattle.client_calls.specs.declared.working_file.WorkingFile.{WorkingFile}

-- the slot of the file that a call was bound to, if it was to one, where that is still there
abbrev pub slot_in : Slots → Option Serial → Option ℕ
slot_in slots None = None
slot_in slots (Some serial) = slot_of_serial slots serial

-- that file, where it is still there
abbrev pub file_in : Slots → Option Serial → Option Serial
file_in slots None = None
file_in slots (Some serial) = if is_some (slot_of_serial slots serial) then Some serial else None

-- a live file has the name of the call, if there is one
abbrev pub is_name_taken : Slots → Option Call → Bool
is_name_taken slots None = false
is_name_taken slots (Some call) = is_some (slot_named slots (name_of call))

-- the file is there, in its slot
pub record IsThere (slots : Slots) (f : WorkingFile) : Type 0 where
  pub slot : slot_of_serial slots f.serial ≡ Some f.slot.0
  pub live : IsSome (file_at slots f.slot.0)

-- a call was bound to the file, and it is there
pub record IsBound (slots : Slots) (bound : Option Serial) (f : WorkingFile) : Type 0 where
  pub bound_is : bound ≡ Some f.serial
  pub there : IsThere slots f
