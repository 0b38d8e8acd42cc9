-- Keys of pages.
use Rattle.std.specs.Prelude.{Option, Some, None}
use Rattle.split_types.specs.declared.buf.Buf.{Buf}
use Rattle.split_types.specs.declared.buf.Buf.TheVariants.{Page, Bitmap, Dir, Inode}
use Rattle.page_cache.specs.declared.key.PageKey.{PageKey}

-- the key of a buffer; none where it is no page
abbrev pub key_of : Buf → Option PageKey
key_of (Page s g) = Some record { serial = s.0; page = g }
key_of Bitmap = None
key_of (Dir k) = None
key_of (Inode s) = None

-- the buffer of a key
abbrev pub buf_of : PageKey → Buf
buf_of key = Page record { 0 = key.serial } key.page
