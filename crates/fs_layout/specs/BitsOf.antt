-- The bits of bytes.
use Rattle.std.specs.Prelude.{ℕ, ◌/◌, ◌%◌, ◌==◌, List, map, Bool, slice_index}
use Rattle.std.specs.Int.{bit_at}
use Rattle.std.specs.List.{range_with_len}

-- the bit of a block of the disk
abbrev pub bit_of : List ℕ → ℕ → Bool
bit_of bytes i = bit_at (slice_index bytes (i / 8)) (i % 8) == 1

-- the bits of the first n blocks
unfoldable pub bits_of : List ℕ → ℕ → List Bool
bits_of bytes n = map (bit_of bytes) (range_with_len 0 n)

-- the bits of all blocks of the largest disk
abbrev pub all_bits_of : List ℕ → List Bool
all_bits_of bytes = bits_of bytes 32768
