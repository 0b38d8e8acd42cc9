-- By what a slot is found.
use Rattle.std.specs.Prelude.{ℕ, ◌+◌, ◌*◌, ◌%◌, ◌^◌, List, map, fold, Option, Some, None, option_map}
use Rattle.split_types.specs.LiveFiles.{LiveFile, Slots}
use Rattle.small_fs.specs.declared.keys.FileName.{FileName}
use Rattle.small_fs.specs.declared.keys.FileSerial.{FileSerial}

-- a number that tells most names apart
abbrev pub name_code : List ℕ → ℕ
name_code name = fold (λ code byte. (code * 31 % 2 ^ 64 + byte) % 2 ^ 64) 0 name

-- the name of a file, as a key
abbrev pub name_key : LiveFile → FileName
name_key f = record { 0 = f.name }

-- the serial of a file, as a key
abbrev pub serial_key : LiveFile → FileSerial
serial_key f = record { 0 = f.serial }

-- the keys of the files, each in its file's slot
abbrev pub names_of : Slots → List (Option FileName)
names_of slots = map (option_map name_key) slots

abbrev pub serials_of : Slots → List (Option FileSerial)
serials_of slots = map (option_map serial_key) slots

-- a free slot has its own number as key, and a slot with a file none
abbrev pub free_key : ℕ → Option LiveFile → Option ℕ
free_key s None = Some s
free_key s (Some f) = None
