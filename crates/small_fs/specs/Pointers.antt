-- The map of a file in memory: the block of each page, 0 where it has none.
use Rattle.std.specs.Prelude.{◌≡◌, ℕ, zero, suc, ◌+◌, ◌^◌, ◌<◌, ◌≤◌, length, map, slice_index, Option, Some, None}
use Rattle.split_types.specs.LiveFiles.{LiveFile}
use Rattle.small_fs.specs.declared.file.File.TheInside.{Inside}

-- the block that a number names
abbrev pub block_named : ℕ → Option ℕ
block_named zero = None
block_named (suc n) = Some (suc n)

abbrev pub file_of : Inside → LiveFile
file_of f = record {
  serial = f.serial;
  name = f.name;
  size = f.size;
  disk_size = f.disk_size;
  blocks = map block_named f.pointers.items;
}

-- the file has 1,008 pages, the number one above its serial can be written, and no page from one on has a block
pub record IsFile (f : Inside) : Type 0 where
  pub pages : length f.pointers.items ≡ 1008
  pub serial : f.serial.0 + 1 < 2 ^ 32
  pub unmapped : (page : ℕ) → f.mapped ≤ page → slice_index f.pointers.items page ≡ 0
