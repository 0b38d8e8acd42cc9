-- The first block of bytes that are one block, and blocks with one byte at each place.
use Rattle.std.proofs.Common.{◌≡◌, ℕ, List, length, arith}
use Rattle.std.proofs.lemmas.List.{length-replicate, take_all}
use Rattle.sim_disk.specs.Bytes.{filled, block_of}

-- the first block of one block is the whole
pub first_block : (bytes : List ℕ) → length bytes ≡ 4096 → block_of bytes 0 ≡ bytes
first_block bytes whole = take_all 4096 bytes (omega (arith, whole))

pub length-filled : (byte : ℕ) → length (filled byte) ≡ 4096
unfolding filled
length-filled byte = length-replicate 4096 byte
