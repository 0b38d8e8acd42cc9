-- What holds of pages that are each filled with one byte.
use Rattle.std.proofs.Common.{◌≡◌, ℕ, ◌+◌, ◌*◌, List, [], ◌∷◌, ◌++◌, length, replicate, refl, arith, ap, sym, ◌∙◌}
use Rattle.std.specs.List.{flat_map}
use Rattle.std.proofs.lemmas.List.{length-append, length-replicate, flat_map_more}
use Rattle.std.proofs.lemmas.List.FromFn.{map-range_with_len_more}
use Rattle.split_types.specs.declared.ids.Serial.{Serial}
use Rattle.split_types.specs.declared.buf.Buf.{Buf}
use Rattle.split_types.specs.declared.buf.Buf.TheVariants.{Page}
use Rattle.split_types.specs.Parents.{pages_of}
use Rattle.sim_disk.specs.Bytes.{spread}

-- one page more
spread_push : (fills : List ℕ) (byte : ℕ) → spread (fills ++ byte ∷ []) ≡ spread fills ++ replicate 4096 byte
spread_push fills byte = sym (flat_map_more (replicate 4096) [] fills byte)

-- how many bytes they have
pub spread_len : (fills : List ℕ) → length (spread fills) ≡ 4096 * length fills
spread_len [] = refl
spread_len (byte ∷ fills) =
    omega (arith, length-append (replicate 4096 byte) (spread fills), length-replicate 4096 byte, spread_len fills)

-- the bytes of one page more of a run
run_more : (f : Buf → List ℕ) (s : Serial) (g n : ℕ)
    → flat_map f (pages_of s g (n + 1)) ≡ flat_map f (pages_of s g n) ++ f (Page s (g + n))
run_more f s g n =
    ap (flat_map f) (map-range_with_len_more (Page s) g n (g + n) refl)
    ∙ sym (flat_map_more f [] (pages_of s g n) (Page s (g + n)))

-- the next page of a run is filled too
pub fills_more : (f : Buf → List ℕ) (s : Serial) (g n : ℕ) (fills new : List ℕ) (byte : ℕ)
    → spread fills ≡ flat_map f (pages_of s g n) → f (Page s (g + n)) ≡ replicate 4096 byte
    → new ≡ fills ++ byte ∷ [] → spread new ≡ flat_map f (pages_of s g (n + 1))
fills_more f s g n fills new byte so_far page more =
    ap spread more
    ∙ spread_push fills byte
    ∙ ap (λ l. l ++ replicate 4096 byte) so_far
    ∙ ap (λ l. flat_map f (pages_of s g n) ++ l) (sym page)
    ∙ sym (run_more f s g n)
