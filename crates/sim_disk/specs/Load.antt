-- What a write brings to its blocks, as it is kept.
use Rattle.std.specs.Prelude.{ℕ, List}
use Rattle.sim_disk.specs.declared.load.Load.{Load}
use Rattle.sim_disk.specs.declared.load.Load.TheVariants.{Filled, Bytes}
use Rattle.sim_disk.specs.Bytes.{spread}

-- the bytes of its blocks
abbrev pub bytes_of : Load → List ℕ
bytes_of (Filled fills) = spread fills
bytes_of (Bytes bytes) = bytes.items
