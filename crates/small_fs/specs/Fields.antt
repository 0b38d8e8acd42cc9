-- How the fields of a file system make up what contracts see of it.
use Rattle.std.specs.Prelude.{◌≡◌, ℕ, ◌<◌, ◌^◌, List, length, slice_index, slice_index_or, Option, None, All, IfSome}
use Rattle.split_types.specs.LiveFiles.{LiveFile, Slots, file_at}
use Rattle.small_fs.specs.Files.{Files}
use Rattle.small_fs.specs.Keys.{names_of, serials_of, free_key}
use Rattle.small_fs.specs.Uses.{all_uses}
use Rattle.small_fs.specs.declared.keys.FileName.{FileName}
use Rattle.small_fs.specs.declared.keys.FileSerial.{FileSerial}
use Rattle.small_fs.specs.declared.fs.Fs.TheInside.{Inside}

abbrev pub files_of : Inside → Files
files_of fs = record { first = fs.uses.first; slots = fs.files.items; next = fs.next; spare = fs.maps }

-- the names, the serials and the free slots are those of the files
pub record AreIndexed (slots : Slots) (names : List (Option FileName)) (serials : List (Option FileSerial))
    (free : List (Option ℕ)) : Type 0 where
  pub names_are : names ≡ names_of slots
  pub serials_are : serials ≡ serials_of slots
  pub free_len : length free ≡ 256
  pub free_are : (s : ℕ) → s < 256 → slice_index_or free s None ≡ free_key s (file_at slots s)

-- a file has 1,008 pages, and a serial below the next one
pub record IsWhole (next : ℕ) (f : LiveFile) : Type 0 where
  pub pages : length f.blocks ≡ 1008
  pub below : f.serial.0 < next

-- there are 256 slots, and the files are whole
pub record AreWhole (next : ℕ) (slots : Slots) : Type 0 where
  pub count : length slots ≡ 256
  pub each : All (λ file. IfSome file (IsWhole next)) slots

-- each block is counted once for each page that has it
abbrev pub AreCounted : Slots → List ℕ → Type 0
AreCounted slots pages = (block : ℕ) → slice_index pages block ≡ all_uses block slots

pub record IsKept (fs : Inside) : Type 0 where
  pub whole : AreWhole fs.next fs.files.items
  pub indexed : AreIndexed fs.files.items fs.names fs.serials fs.free
  pub counted : AreCounted fs.files.items fs.uses.pages
  pub fits : fs.next < 2 ^ 32
