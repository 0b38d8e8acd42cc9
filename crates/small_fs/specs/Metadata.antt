-- Which buffers are blocks of metadata.
use Rattle.std.specs.Prelude.{◌<◌}
use Rattle.split_types.specs.declared.buf.Buf.{Buf}
use Rattle.split_types.specs.declared.buf.Buf.TheVariants.{Page, Bitmap, Dir, Inode}

-- the bitmap, one of the 4 blocks of the directory, or one of the 256 inodes
abbrev pub IsMetadata : Buf → Type 0
IsMetadata (Page serial page) = ⊥
IsMetadata Bitmap = Unit {0}
IsMetadata (Dir k) = k < 4
IsMetadata (Inode s) = s.0 < 256
