-- Blocks that are each filled with one byte, one after another.
use Rattle.std.proofs.Common.{◌≡◌, ℕ, zero, suc, ◌+◌, ◌*◌, ◌/◌, ◌<◌, List, [], ◌∷◌, ◌++◌, take, drop, length, replicate, get_or, refl, arith, ap, ◌∙◌}
use Rattle.std.proofs.Math.Seq.{drop-append-add}
use Rattle.std.proofs.lemmas.List.{take_all, take-append-le, length-append, length-replicate}
use Rattle.sim_disk.specs.Bytes.{filled, spread, block_of}

-- how many bytes they have
pub spread_len : (fills : List ℕ) → length (spread fills) ≡ 4096 * length fills
spread_len [] = refl
spread_len (byte ∷ fills) =
    omega (arith, length-append (replicate 4096 byte) (spread fills), length-replicate 4096 byte, spread_len fills)

-- how many they are
pub spread_count : (fills : List ℕ) → length (spread fills) / 4096 ≡ length fills
spread_count fills = omega (arith, spread_len fills)

first_of_pages : (page rest : List ℕ) → length page ≡ 4096 → block_of (page ++ rest) 0 ≡ page
first_of_pages page rest len =
    take-append-le 4096 page rest (omega (arith, len)) ∙ take_all 4096 page (omega (arith, len))

later_page : (page rest : List ℕ) (i : ℕ) → length page ≡ 4096 → block_of (page ++ rest) (suc i) ≡ block_of rest i
later_page page rest i len =
    let next : 4096 * suc i ≡ length page + 4096 * i = omega (arith, len) in
    ap (λ n. take 4096 (drop n (page ++ rest))) next ∙ ap (take 4096) (drop-append-add page rest (4096 * i))

-- each of them has its byte at each place
pub spread_block : (fills : List ℕ) (i d : ℕ) → i < length fills → block_of (spread fills) i ≡ filled (get_or fills i d)
unfolding filled
spread_block [] i d below = absurd (omega arith)
spread_block (byte ∷ fills) zero d below =
    first_of_pages (replicate 4096 byte) (spread fills) (length-replicate 4096 byte)
spread_block (byte ∷ fills) (suc i) d below =
    later_page (replicate 4096 byte) (spread fills) i (length-replicate 4096 byte)
    ∙ spread_block fills i d (omega arith)
