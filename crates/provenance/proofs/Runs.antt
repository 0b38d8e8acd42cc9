-- The open dirtyings of buffers that are numbered in order.
use Rattle.std.proofs.Common.{◌≡◌, ℕ, ◌+◌, List, [], ◌++◌, map, refl, ap, sym, ◌∙◌}
use Rattle.std.specs.List.{flat_map, range_with_len}
use Rattle.std.proofs.lemmas.List.{flat_map_more}
use Rattle.std.proofs.lemmas.List.FromFn.{map-range_with_len_more}
use Rattle.split_types.specs.declared.buf.Buf.{Buf}
use Rattle.split_types.specs.Parents.{metadata_buffers, buffer_at}

-- the open dirtyings of one buffer more
pub run-more : (walk : Buf → List ℕ) (of : ℕ → Buf) (a n j : ℕ) (old new : List ℕ)
    → new ≡ old ++ walk (of j) → old ≡ flat_map walk (map of (range_with_len a n)) → a + n ≡ j
    → new ≡ flat_map walk (map of (range_with_len a (n + 1)))
run-more walk of a n j old new news olds is =
    news
    ∙ ap (λ places. places ++ walk (of j)) olds
    ∙ flat_map_more walk [] (map of (range_with_len a n)) (of j)
    ∙ ap (flat_map walk) (sym (map-range_with_len_more of a n j is))

-- the blocks of metadata are those from 1 to 261
pub all-metadata : metadata_buffers ≡ map buffer_at (range_with_len 1 261)
unfolding metadata_buffers
all-metadata = refl
