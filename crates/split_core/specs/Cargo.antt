-- The bytes that a write carries, as they are kept.
use Rattle.std.specs.Prelude.{ℕ, List}
use Rattle.sim_disk.specs.Bytes.{spread}
use Rattle.split_core.specs.declared.note.cargo.Load.{Load}
use Rattle.split_core.specs.declared.note.cargo.Load.TheVariants.{Filled, Bytes}

-- what they are
abbrev pub bytes_of : Load → List ℕ
bytes_of (Filled fills) = spread fills
bytes_of (Bytes bytes) = bytes.items
