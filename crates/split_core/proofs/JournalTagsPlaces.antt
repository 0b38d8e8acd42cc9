-- The places of the buffers of metadata, and lists that have something for each of them.
use Rattle.std.proofs.Common.{◌≡◌, ℕ, zero, suc, ◌+◌, ◌-◌, ◌<◌, ◌≤◌, List, ◌∷◌, length, map, filter, get_or, Bool, true, false, Option, Some, None, refl, arith, subst, sym, ◌∙◌, ap, inl, inr, if◌then◌else◌}
use Rattle.std.specs.Option.{is_some}
use Rattle.std.specs.List.{range_with_len}
use Rattle.std.proofs.lemmas.Bool.{cases_lt, eq-eqb, ne_eqb}
use Rattle.std.proofs.lemmas.Bool.Decides.{nat_tests}
use Rattle.std.proofs.lemmas.List.{ext_get_or}
use Rattle.std.proofs.lemmas.List.FromFn.{get_or-map-range_with_len, length-map-range_with_len}
use Rattle.split_types.specs.declared.buf.Buf.{Buf}
use Rattle.split_types.specs.declared.buf.Buf.TheVariants.{Page, Bitmap, Dir, Inode}
use Rattle.split_types.specs.ByPlace.{IsMetadata}
use Rattle.split_types.specs.Hooks.{same_buf}
use Rattle.split_types.specs.Parents.{metadata_buffers, buffer_at, home_block}
use Rattle.journal_core.specs.Places.{place_of, blocks_from}

-- ---- the buffer of a place
-- which of the three kinds stands at a place
pub data AtPlace (k : ℕ) : Type 0 where
  at_bitmap : k ≡ 0 → buffer_at (k + 1) ≡ Bitmap → AtPlace k
  at_dir : 1 ≤ k → k < 5 → buffer_at (k + 1) ≡ Dir (k - 1) → AtPlace k
  at_inode : 5 ≤ k → buffer_at (k + 1) ≡ Inode (record { 0 = k - 5 }) → AtPlace k

dir_there : (block : ℕ) → 2 ≤ block → block < 6 → buffer_at block ≡ Dir (block - 2)
dir_there block some few = grind (arith, nat_tests)

inode_there : (block : ℕ) → 6 ≤ block → buffer_at block ≡ Inode (record { 0 = block - 6 })
inode_there block some = grind (arith, nat_tests)

pub at_place : (k : ℕ) → AtPlace k
at_place k = elim (cases_lt 0 k) [
  | inr none ↦ (let first : k ≡ 0 = omega arith in at_bitmap first (ap (λ n. buffer_at (n + 1)) first))
  | inl some ↦ elim (cases_lt k 5) [
    | inl few ↦
        at_dir (omega arith) few
        (dir_there (k + 1) (omega arith) (omega arith) ∙ ap Dir (omega arith))
    | inr many ↦
        at_inode many
        (inode_there (k + 1) (omega arith) ∙ ap (λ n. Inode (record { 0 = n })) (omega arith))
  ]
]

pub metadata_at : (k : ℕ) → k < 261 → IsMetadata (buffer_at (k + 1))
metadata_at k below = by_kind (at_place k)
  where
    by_kind : AtPlace k → IsMetadata (buffer_at (k + 1))
    by_kind (at_bitmap first is) = subst IsMetadata (sym is) tt
    by_kind (at_dir some few is) = subst IsMetadata (sym is) (omega arith)
    by_kind (at_inode some is) = subst IsMetadata (sym is) (omega arith)

-- its block
pub block_at : (k : ℕ) → home_block (buffer_at (k + 1)) ≡ k + 1
block_at k = by_kind (at_place k)
  where
    by_kind : AtPlace k → home_block (buffer_at (k + 1)) ≡ k + 1
    by_kind (at_bitmap first is) = ap home_block is ∙ omega arith
    by_kind (at_dir some few is) = ap home_block is ∙ omega arith
    by_kind (at_inode some is) = ap home_block is ∙ omega arith

-- the place of a buffer
pub place_within : (b : Buf) → IsMetadata b → place_of b < 261
place_within (Page s g) metadata = absurd metadata
place_within Bitmap metadata = omega arith
place_within (Dir k) metadata = omega arith
place_within (Inode slot) metadata = omega arith

pub here_is : (b : Buf) (k : ℕ) → IsMetadata b → k ≡ place_of b → same_buf (buffer_at (k + 1)) b ≡ true
here_is (Page s g) k metadata same = absurd metadata
here_is Bitmap k metadata same = by_kind (at_place k)
  where
    by_kind : AtPlace k → same_buf (buffer_at (k + 1)) Bitmap ≡ true
    by_kind (at_bitmap first is) = ap (λ c. same_buf c Bitmap) is
    by_kind (at_dir some few is) = absurd (omega arith)
    by_kind (at_inode some is) = absurd (omega arith)
here_is (Dir j) k metadata same = by_kind (at_place k)
  where
    by_kind : AtPlace k → same_buf (buffer_at (k + 1)) (Dir j) ≡ true
    by_kind (at_bitmap first is) = absurd (omega arith)
    by_kind (at_dir some few is) = ap (λ c. same_buf c (Dir j)) is ∙ eq-eqb (k - 1) j (omega arith)
    by_kind (at_inode some is) = absurd (omega arith)
here_is (Inode slot) k metadata same = by_kind (at_place k)
  where
    by_kind : AtPlace k → same_buf (buffer_at (k + 1)) (Inode slot) ≡ true
    by_kind (at_bitmap first is) = absurd (omega arith)
    by_kind (at_dir some few is) = absurd (omega arith)
    by_kind (at_inode some is) = ap (λ c. same_buf c (Inode slot)) is ∙ eq-eqb (k - 5) slot.0 (omega arith)

pub other_is : (b : Buf) (k : ℕ) → IsMetadata b → (k ≡ place_of b → ⊥) → same_buf (buffer_at (k + 1)) b ≡ false
other_is (Page s g) k metadata other = absurd metadata
other_is Bitmap k metadata other = by_kind (at_place k)
  where
    by_kind : AtPlace k → same_buf (buffer_at (k + 1)) Bitmap ≡ false
    by_kind (at_bitmap first is) = absurd (other first)
    by_kind (at_dir some few is) = ap (λ c. same_buf c Bitmap) is
    by_kind (at_inode some is) = ap (λ c. same_buf c Bitmap) is
other_is (Dir j) k metadata other = by_kind (at_place k)
  where
    by_kind : AtPlace k → same_buf (buffer_at (k + 1)) (Dir j) ≡ false
    by_kind (at_bitmap first is) = ap (λ c. same_buf c (Dir j)) is
    by_kind (at_dir some few is) =
        ap (λ c. same_buf c (Dir j)) is ∙ ne_eqb (k - 1) j (λ (e : k - 1 ≡ j). other (omega arith))
    by_kind (at_inode some is) = ap (λ c. same_buf c (Dir j)) is
other_is (Inode slot) k metadata other = by_kind (at_place k)
  where
    by_kind : AtPlace k → same_buf (buffer_at (k + 1)) (Inode slot) ≡ false
    by_kind (at_bitmap first is) = ap (λ c. same_buf c (Inode slot)) is
    by_kind (at_dir some few is) = ap (λ c. same_buf c (Inode slot)) is
    by_kind (at_inode some is) =
        ap (λ c. same_buf c (Inode slot)) is ∙ ne_eqb (k - 5) slot.0 (λ (e : k - 5 ≡ slot.0). other (omega arith))

-- ---- all of them
-- how many there are
pub places : ℕ
places = 261

pub places_are : places ≡ 261
unfolding places
places_are = refl

pub buffers_are : metadata_buffers ≡ map buffer_at (range_with_len 1 places)
unfolding metadata_buffers places
buffers_are = refl

-- a list that has something for each of them
pub list_is : {X : Type 0} (d : X) (xs : List X) (f : ℕ → X) → length xs ≡ 261
    → ((k : ℕ) → k < 261 → get_or xs k d ≡ f (k + 1)) → xs ≡ map f (range_with_len 1 places)
list_is d xs f long each =
    ext_get_or d xs (map f (range_with_len 1 places))
    (long ∙ sym places_are ∙ sym (length-map-range_with_len f 1 places))
    (λ k below. each k (omega (arith, long))
    ∙ sym (get_or-map-range_with_len f 1 places k (k + 1) d (omega (arith, long, places_are)) (omega arith)))

-- the blocks whose places have something
pub blocks_over : {X : Type 0} (f : ℕ → Option X) (a n : ℕ)
    → blocks_from a (map f (range_with_len a n)) ≡ filter (λ x. is_some (f x)) (range_with_len a n)
blocks_over f a zero = refl
blocks_over {X = X} f a (suc n) = by_place (f a) (blocks_over f (a + 1) n)
  where
    by_place : (o : Option X)
        → blocks_from (a + 1) (map f (range_with_len (a + 1) n))
        ≡ filter (λ x. is_some (f x)) (range_with_len (a + 1) n)
        → blocks_from a (o ∷ map f (range_with_len (a + 1) n))
        ≡ (if is_some o then a ∷ filter (λ x. is_some (f x)) (range_with_len (a + 1) n)
        else filter (λ x. is_some (f x)) (range_with_len (a + 1) n))
    by_place None rest = rest
    by_place (Some x) rest = ap (λ l. a ∷ l) rest

-- the blocks of the buffers that pass a test
blocks_passing : (p : Buf → Bool) (a n : ℕ)
    → map home_block (filter p (map buffer_at (range_with_len (a + 1) n)))
    ≡ filter (λ x. p (buffer_at x)) (range_with_len (a + 1) n)
blocks_passing p a zero = refl
blocks_passing p a (suc n) = by_test (p (buffer_at (a + 1))) (blocks_passing p (a + 1) n)
  where
    later : List ℕ
    later = range_with_len (a + 1 + 1) n

    by_test : (t : Bool)
        → map home_block (filter p (map buffer_at later)) ≡ filter (λ x. p (buffer_at x)) later
        → map home_block (if t then buffer_at (a + 1) ∷ filter p (map buffer_at later)
        else filter p (map buffer_at later))
        ≡ (if t then (a + 1) ∷ filter (λ x. p (buffer_at x)) later else filter (λ x. p (buffer_at x)) later)
    by_test true rest =
        ap (λ y. y ∷ map home_block (filter p (map buffer_at later))) (block_at a) ∙ ap (λ l. (a + 1) ∷ l) rest
    by_test false rest = rest

pub passing_blocks : (p : Buf → Bool)
    → map home_block (filter p metadata_buffers) ≡ filter (λ x. p (buffer_at x)) (range_with_len 1 places)
passing_blocks p = ap (λ l. map home_block (filter p l)) buffers_are ∙ blocks_passing p 0 places
