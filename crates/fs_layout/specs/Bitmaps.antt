-- Bitmaps.
use Rattle.std.specs.Prelude.{◌≡◌, ℕ, List}
use Rattle.split_types.specs.DiskLayout.{taken_block, IsBitmap}
use Rattle.fs_layout.specs.declared.bitmap.BitImage.{BitImage}

abbrev pub bitmap_spelling : BitImage → List ℕ
bitmap_spelling m = taken_block m.taken

pub record IsBitImage (device : ℕ) (m : BitImage) : Type 0 where
  pub of_disk : m.device ≡ device
  pub bitmap : IsBitmap device m.taken
