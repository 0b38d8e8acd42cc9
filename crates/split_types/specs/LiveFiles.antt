-- The live files, one place for each of 256 slots, and the blocks of metadata that they give.
use Rattle.std.specs.Prelude.{ℕ, ◌+◌, ◌-◌, ◌*◌, ◌==◌, List, [], ◌∷◌, ◌++◌, length, map, take, drop, replicate, max, position, slice_index_or, Bool, false, ◌||◌, nat_lt, Option, Some, None, is_none}
use Rattle.std.specs.List.{flat_map, filter_map, list_any, range_with_len}
use Rattle.std.specs.Str.{bytes_eq}
use Rattle.split_types.specs.declared.ids.Serial.{Serial}
use Rattle.split_types.specs.declared.buf.Buf.{Buf}
use Rattle.split_types.specs.declared.buf.Buf.TheVariants.{Page, Bitmap, Dir, Inode}
use Rattle.split_types.specs.declared.workload.Preset.{Preset}
use Rattle.split_types.specs.DiskLayout.{zero_block, bitmap_block, file_entry, free_entry, file_inode}

-- a live file: its size, the size that its inode says, and the block of each of its 1,008 pages that has one
pub record LiveFile : Type 0 where
  pub serial : Serial
  pub name : List ℕ
  pub size : ℕ
  pub disk_size : ℕ
  pub blocks : List (Option ℕ)

-- the file of each slot; a slot without one is free
abbrev pub Slots : Type 0
Slots = List (Option LiveFile)

-- the file of a slot
abbrev pub file_at : Slots → ℕ → Option LiveFile
file_at slots s = slice_index_or slots s None

-- ---- by name, by serial, by want of a file

abbrev pub has_name : List ℕ → Option LiveFile → Bool
has_name name None = false
has_name name (Some f) = bytes_eq f.name name

abbrev pub has_serial : Serial → Option LiveFile → Bool
has_serial serial None = false
has_serial serial (Some f) = f.serial.0 == serial.0

-- the slot of the live file of a name
abbrev pub slot_named : Slots → List ℕ → Option ℕ
slot_named slots name = position (has_name name) slots

-- the slot of the live file of a serial
abbrev pub slot_of_serial : Slots → Serial → Option ℕ
slot_of_serial slots serial = position (has_serial serial) slots

-- the least free slot
abbrev pub free_slot : Slots → Option ℕ
free_slot slots = position is_none slots

-- ---- what becomes of a file

-- pages without blocks
unfoldable pub unmapped : ℕ → List (Option ℕ)
unmapped n = replicate n None

-- a file that was just made: it is empty
abbrev pub made_file : Serial → List ℕ → LiveFile
made_file serial name = record { serial = serial; name = name; size = 0; disk_size = 0; blocks = unmapped 1008 }

-- a file that reaches at least to this size
abbrev pub grown_file : ℕ → LiveFile → LiveFile
grown_file size f = record f { size = max f.size size }

-- so many blocks from this one on
abbrev pub run_of : ℕ → ℕ → List (Option ℕ)
run_of first n = map Some (range_with_len first n)

-- the pages' blocks, where the n pages from this one on have the blocks from `first` on
abbrev pub with_run : ℕ → ℕ → ℕ → List (Option ℕ) → List (Option ℕ)
with_run page n first blocks = take page blocks ++ run_of first n ++ drop (page + n) blocks

-- a file of which n pages were mapped
abbrev pub mapped_file : ℕ → ℕ → ℕ → ℕ → LiveFile → LiveFile
mapped_file page n first disk_size f = record f { disk_size = disk_size; blocks = with_run page n first f.blocks }

-- the block of a page
abbrev pub block_of_page : LiveFile → ℕ → Option ℕ
block_of_page f page = slice_index_or f.blocks page None

-- the blocks of a file, by rising page
abbrev pub blocks_of : LiveFile → List ℕ
blocks_of f = filter_map (λ b. b) f.blocks

-- a preset file: its pages have the blocks from `first` on
abbrev pub preset_file : ℕ → ℕ → Preset → LiveFile
preset_file serial first f = record {
  serial = record { 0 = serial };
  name = f.name;
  size = 4096 * f.pages;
  disk_size = 4096 * f.pages;
  blocks = run_of first f.pages ++ unmapped (1008 - f.pages);
}

-- preset files, of which the first has this serial, and the first page this block
abbrev pub preset_files : ℕ → ℕ → List Preset → Slots
preset_files serial first [] = []
preset_files serial first (f ∷ fs) = Some (preset_file serial first f) ∷ preset_files (serial + 1) (first + f.pages) fs

-- the slots at the start: the preset files, whose pages stand from block `first` on
abbrev pub preset_slots : ℕ → List Preset → Slots
preset_slots first files = preset_files 0 first files ++ replicate (256 - length files) None

-- ---- the blocks of metadata

abbrev pub slot_entry : Option LiveFile → List ℕ
slot_entry None = free_entry
slot_entry (Some f) = file_entry f.serial f.name

-- where a page's block stands, and 0 where it has none
abbrev pub pointer : Option ℕ → ℕ
pointer None = 0
pointer (Some block) = block

abbrev pub slot_inode : Option LiveFile → List ℕ
slot_inode None = zero_block
slot_inode (Some f) = file_inode f.serial f.disk_size (map pointer f.blocks)

abbrev pub maps_to : ℕ → Option ℕ → Bool
maps_to block None = false
maps_to block (Some b) = b == block

-- the block stands in the file's map
abbrev pub has_block : ℕ → Option LiveFile → Bool
has_block block None = false
has_block block (Some f) = list_any (maps_to block) f.blocks

-- the block is used: it lies before the data, or stands in the map of a live file
abbrev pub is_used : ℕ → Slots → ℕ → Bool
is_used first slots block = nat_lt block first || list_any (has_block block) slots

-- the block of a buffer of metadata, where data stands from block `first` on
abbrev pub metadata_block : ℕ → Slots → Buf → List ℕ
metadata_block first slots Bitmap = bitmap_block (is_used first slots)
metadata_block first slots (Dir k) = flat_map slot_entry (take 64 (drop (64 * k) slots))
metadata_block first slots (Inode s) = slot_inode (file_at slots s.0)
metadata_block first slots (Page serial page) = []
