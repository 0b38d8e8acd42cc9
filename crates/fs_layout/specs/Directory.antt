-- The directory.
use Rattle.std.specs.Prelude.{◌≡◌, ℕ, List, length, Option, Some, None, All, flat_map}
use Rattle.split_types.specs.DiskLayout.{file_entry, free_entry, IsEntry}
use Rattle.fs_layout.specs.declared.directory.DirEntry.{DirEntry}
use Rattle.fs_layout.specs.declared.directory.DirImage.{DirImage}

abbrev pub file_spelling : DirEntry → List ℕ
file_spelling e = file_entry e.serial e.name

abbrev pub IsFileImage : DirEntry → Type 0
IsFileImage e = IsEntry e.serial e.name

abbrev pub entry_spelling : Option DirEntry → List ℕ
entry_spelling None = free_entry
entry_spelling (Some e) = file_spelling e

abbrev pub IsEntryImage : Option DirEntry → Type 0
IsEntryImage None = Unit {0}
IsEntryImage (Some e) = IsFileImage e

abbrev pub dir_spelling : DirImage → List ℕ
dir_spelling d = flat_map entry_spelling d.entries

pub record IsDirImage (d : DirImage) : Type 0 where
  pub slots : length d.entries ≡ 64
  pub entries : All IsEntryImage d.entries
