-- The live files by their slots, and the blocks of metadata that spell them.
use Rattle.std.specs.Prelude.{ℕ, ◌+◌, ◌==◌, List, [], length, map, slice_get, nat_lt, option_map, unwrap_or, true, false, Option, Some, None, if◌then◌else◌}
use Rattle.std.specs.List.{range_with_len}
use Rattle.split_types.specs.declared.ids.Serial.{Serial}
use Rattle.split_types.specs.declared.ids.Slot.{Slot}
use Rattle.split_types.specs.declared.buf.Buf.{Buf}
use Rattle.split_types.specs.declared.call.Call.{Call}
use Rattle.split_types.specs.declared.workload.Workload.{Workload}
use Rattle.split_types.specs.declared.event.Event.{Event}
use Rattle.split_types.specs.declared.event.Event.TheVariants.{Make, Drop}
use Rattle.split_types.specs.History.{◌▹◌}
use Rattle.split_types.specs.Workloads.{first_block}
use Rattle.split_types.specs.Calls.{call_of, name_of}
use Rattle.split_types.specs.LiveFiles.{LiveFile, Slots, metadata_block}
use Rattle.split_types.specs.FileSizes.{size_of, disk_size_of}
use Rattle.split_types.specs.FileMaps.{mapped_block, makes}

-- the live file of a slot
abbrev pub file_in_slot : Workload → List Event → ℕ → Option Serial
file_in_slot w [] k = if nat_lt k (length w.files) then Some (record { 0 = k }) else None
file_in_slot w (h ▹ Make by slot serial) k = if slot.0 == k then Some serial else file_in_slot w h k
file_in_slot w (h ▹ Drop by slot serial) k = if slot.0 == k then None else file_in_slot w h k
file_in_slot w (h ▹ e) k = file_in_slot w h k

-- the slot of a file: of a preset file that of its number, else that of its make
abbrev pub slot_of : Workload → List Event → Serial → Slot
slot_of w [] s = record { 0 = s.0 }
slot_of w (h ▹ Make by slot serial) s = elim (serial.0 == s.0) [ true ↦ slot | false ↦ slot_of w h s ]
slot_of w (h ▹ e) s = slot_of w h s

-- the slot of a file, if there is one
abbrev pub slot_of_some : Workload → List Event → Option Serial → Slot
slot_of_some w h None = record { 0 = 0 }
slot_of_some w h (Some s) = slot_of w h s

-- the name that a call, if there is one, names
abbrev pub name_of_some : Option Call → List ℕ
name_of_some None = []
name_of_some (Some c) = name_of c

-- the name of a file: that of its preset, or that of its maker's call
abbrev pub file_name : Workload → List Event → ℕ → List ℕ
file_name w [] s = unwrap_or (option_map (λ f. f.name) (slice_get w.files s)) []
file_name w (h ▹ Make by slot serial) s =
    elim (serial.0 == s) [ true ↦ name_of_some (call_of w h by.0) | false ↦ file_name w h s ]
file_name w (h ▹ e) s = file_name w h s

-- what the slot of a live file holds
abbrev pub live_file : Workload → List Event → Serial → LiveFile
live_file w h serial = record {
  serial = serial;
  name = file_name w h serial.0;
  size = size_of w h serial.0;
  disk_size = disk_size_of w h serial.0;
  blocks = map (mapped_block w h serial.0) (range_with_len 0 1008);
}

-- the file of each of the 256 slots
abbrev pub live_files : Workload → List Event → Slots
live_files w h = map (λ k. option_map (live_file w h) (file_in_slot w h k)) (range_with_len 0 256)

-- the number of the file that is made next: the least that no file ever had
abbrev pub next_serial : Workload → List Event → Serial
next_serial w h = record { 0 = length w.files + makes h }

-- the bytes of a buffer of metadata: the one spelling of the live files
abbrev pub metadata_bytes : Workload → List Event → Buf → List ℕ
metadata_bytes w h b = metadata_block (first_block w) (live_files w h) b
