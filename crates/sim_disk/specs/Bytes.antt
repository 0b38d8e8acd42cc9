-- The bytes of blocks, which have 4,096 each.
use Rattle.std.specs.Prelude.{ℕ, ◌*◌, List, [], take, drop, replicate, slice_index_or}
use Rattle.std.specs.List.{flat_map}

-- a block with this byte at each place
unfoldable pub filled : ℕ → List ℕ
filled byte = replicate 4096 byte

-- the blocks filled with each of these bytes, one after another
abbrev pub spread : List ℕ → List ℕ
spread fills = flat_map (replicate 4096) fills

-- the block at a place among bytes that stand one after another
abbrev pub block_of : List ℕ → ℕ → List ℕ
block_of bytes at = take 4096 (drop (4096 * at) bytes)

-- the block of a number; none has no bytes
abbrev pub block_at : List (List ℕ) → ℕ → List ℕ
block_at blocks b = slice_index_or blocks b []
