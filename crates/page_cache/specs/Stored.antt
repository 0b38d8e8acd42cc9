-- The bytes of a page as they are kept.
use Rattle.std.specs.Prelude.{ℕ, List, replicate}
use Rattle.page_cache.specs.declared.content.Stored.{Stored}
use Rattle.page_cache.specs.declared.content.Stored.TheVariants.{Filled, Patched, Bytes}

-- what they are
abbrev pub bytes_of : Stored → List ℕ
bytes_of (Filled byte) = replicate 4096 byte
bytes_of (Patched bytes) = bytes
bytes_of (Bytes bytes) = bytes.items
