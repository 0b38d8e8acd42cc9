-- Places that stand for the buffers of metadata: which blocks they list, which is the first, and how many there are.
use Rattle.std.proofs.Common.{◌≡◌, ℕ, zero, suc, ◌+◌, ◌-◌, ◌==◌, ◌<◌, ◌≤◌, List, [], ◌∷◌, ◌++◌, map, length, get_or, set, filter, find, slice_get, cond, Bool, true, false, ◌||◌, Option, Some, None, option_map, refl, ap, sym, subst, ◌∙◌, inl, inr, arith, if◌then◌else◌}
use Rattle.std.specs.Option.{is_some}
use Rattle.std.specs.List.{range_with_len}
use Rattle.std.proofs.lemmas.Bool.{cases_eq, eq-eqb, ne_eqb, cond-true, cond-false}
use Rattle.std.proofs.lemmas.Bool.Decides.{nat_tests}
use Rattle.std.proofs.lemmas.Option.{same_Some}
use Rattle.std.proofs.lemmas.List.{length-map, get_or-set_same, get_or-set_other}
use Rattle.split_types.specs.declared.buf.Buf.{Buf}
use Rattle.split_types.specs.declared.buf.Buf.TheVariants.{Page, Bitmap, Dir, Inode}
use Rattle.split_types.specs.Hooks.{same_buf}
use Rattle.split_types.specs.Parents.{metadata_buffers, home_block}
use Rattle.split_types.specs.ByPlace.{IsMetadata}
use Rattle.journal_core.specs.Causes.{joined, joined_all}
use Rattle.journal_core.specs.Places.{place_of, blocks_from, blocks_of}

-- ---- the place of a buffer
pub place_within : (b : Buf) → IsMetadata b → place_of b < 261
place_within (Page s g) is = absurd (is)
place_within Bitmap is = omega arith
place_within (Dir k) is = omega (arith, is)
place_within (Inode slot) is = omega (arith, is)

pub place_home : (b : Buf) → IsMetadata b → home_block b ≡ place_of b + 1
place_home (Page s g) is = absurd (is)
place_home Bitmap is = refl
place_home (Dir k) is = omega arith
place_home (Inode slot) is = omega arith

-- two buffers are one where their places are
pub same_place : (b c : Buf) → IsMetadata b → IsMetadata c → same_buf b c ≡ (place_of b == place_of c)
same_place (Page s g) c is also = absurd (is)
same_place b (Page s g) is also = absurd (also)
same_place Bitmap Bitmap is also = refl
same_place Bitmap (Dir k) is also = sym (ne_eqb 0 (1 + k) (λ (e : 0 ≡ 1 + k). omega (arith, e)))
same_place Bitmap (Inode slot) is also = sym (ne_eqb 0 (5 + slot.0) (λ (e : 0 ≡ 5 + slot.0). omega (arith, e)))
same_place (Dir k) Bitmap is also = sym (ne_eqb (1 + k) 0 (λ (e : 1 + k ≡ 0). omega (arith, e)))
same_place (Dir k) (Dir j) is also = grind (arith, nat_tests)
same_place (Dir k) (Inode slot) is also =
    sym (ne_eqb (1 + k) (5 + slot.0) (λ (e : 1 + k ≡ 5 + slot.0). omega (arith, e, is)))
same_place (Inode slot) Bitmap is also = sym (ne_eqb (5 + slot.0) 0 (λ (e : 5 + slot.0 ≡ 0). omega (arith, e)))
same_place (Inode slot) (Dir k) is also =
    sym (ne_eqb (5 + slot.0) (1 + k) (λ (e : 5 + slot.0 ≡ 1 + k). omega (arith, e, also)))
same_place (Inode slot) (Inode own) is also = grind (arith, nat_tests)

-- and so where their blocks are
pub same_home : (b c : Buf) → IsMetadata b → IsMetadata c → (home_block b == home_block c) ≡ same_buf b c
same_home b c is also =
    ap (λ n. n == home_block c) (place_home b is) ∙ ap (λ n. place_of b + 1 == n) (place_home c also)
    ∙ shifted (place_of b) (place_of c) ∙ sym (same_place b c is also)
  where
    shifted : (m n : ℕ) → (m + 1 == n + 1) ≡ (m == n)
    shifted m n = grind (arith, nat_tests)

-- ---- all buffers of metadata stand in the order of their places
abbrev AreAt : ℕ → List Buf → Type 0
AreAt n [] = Unit {0}
AreAt n (b ∷ bs) = IsMetadata b × (place_of b ≡ n) × AreAt (n + 1) bs

abbrev inode_of : ℕ → Buf
inode_of slot = Inode (record { 0 = slot })

inodes_at : (lo m n : ℕ) → n ≡ 5 + lo → lo + m ≤ 256 → AreAt n (map inode_of (range_with_len lo m))
inodes_at lo zero n is most = tt
inodes_at lo (suc m) n is most =
    (omega (arith, most), omega (arith, is), inodes_at (lo + 1) m (n + 1) (omega (arith, is)) (omega (arith, most)))

dirs_at : (lo m n : ℕ) (rest : List Buf) → n ≡ 1 + lo → lo + m ≤ 4 → ((k : ℕ) → k ≡ n + m → AreAt k rest)
    → AreAt n (map Dir (range_with_len lo m) ++ rest)
dirs_at lo zero n rest is most more = more n (omega arith)
dirs_at lo (suc m) n rest is most more = (
  omega (arith, most),
  omega (arith, is),
  dirs_at (lo + 1) m (n + 1) rest (omega (arith, is)) (omega (arith, most)) (λ k at. more k (omega (arith, at))),
)

metadata_at : AreAt 0 metadata_buffers
unfolding metadata_buffers
metadata_at = (
  tt,
  refl,
  dirs_at 0 4 1 (map inode_of (range_with_len 0 256)) (omega arith) (omega arith)
      (λ k at. inodes_at 0 256 k (omega (arith, at)) (omega arith)),
)

at_metadata : (n i : ℕ) (bs : List Buf) (b : Buf) → AreAt n bs → slice_get bs i ≡ Some b → IsMetadata b
at_metadata n i [] b at is = absurd (cc)
at_metadata n zero (c ∷ bs) b at is = subst IsMetadata (same_Some c b is) at.0
at_metadata n (suc i) (c ∷ bs) b at is = at_metadata (n + 1) i bs b at.2 is

pub among_metadata : (i : ℕ) (b : Buf) → slice_get metadata_buffers i ≡ Some b → IsMetadata b
among_metadata i b is = at_metadata 0 i metadata_buffers b metadata_at is

metadata_long : length metadata_buffers ≡ 261
unfolding metadata_buffers
metadata_long = refl

-- ---- the blocks of places that have something for the buffers that pass a test
first_found : (test : Buf → Bool) (bs : List Buf) → slice_get (map home_block (filter test bs)) 0 ≡ option_map home_block (find test bs)
first_found test [] = refl
first_found test (b ∷ bs) = by_test (test b) (first_found test bs)
  where
    by_test : (t : Bool) → slice_get (map home_block (filter test bs)) 0 ≡ option_map home_block (find test bs)
        → slice_get (map home_block (if t then b ∷ filter test bs else filter test bs)) 0
        ≡ option_map home_block (if t then Some b else find test bs)
    by_test true rest = refl
    by_test false rest = rest

module _ {X : Type 0} (test : Buf → Bool) where
  -- the places from the one of block n + 1 on have something exactly for those
  abbrev AreSome : ℕ → List (Option X) → Type 0
  AreSome n places =
      (b : Buf) → IsMetadata b → n ≤ place_of b → is_some (get_or places (place_of b - n) None) ≡ test b

  later_some : (n : ℕ) (place : Option X) (places : List (Option X)) → AreSome n (place ∷ places)
      → AreSome (n + 1) places
  later_some n place places some b is below =
      let at : place_of b - n ≡ suc (place_of b - (n + 1)) = omega (arith, below) in
      ap (λ k. is_some (get_or (place ∷ places) k None)) (sym at) ∙ some b is (omega (arith, below))

  first_some : (n : ℕ) (place : Option X) (places : List (Option X)) (b : Buf) → AreSome n (place ∷ places)
      → IsMetadata b → place_of b ≡ n → is_some place ≡ test b
  first_some n place places b some is at =
      let none : place_of b - n ≡ 0 = omega (arith, at) in
      ap (λ k. is_some (get_or (place ∷ places) k None)) (sym none) ∙ some b is (omega (arith, at))

  blocks_filter : (n : ℕ) (bs : List Buf) (places : List (Option X)) → AreAt n bs → length places ≡ length bs
      → AreSome n places → blocks_from (n + 1) places ≡ map home_block (filter test bs)
  blocks_filter n [] [] at long some = refl
  blocks_filter n [] (place ∷ places) at long some = absurd (omega (arith, long))
  blocks_filter n (b ∷ bs) [] at long some = absurd (omega (arith, long))
  blocks_filter n (b ∷ bs) (None ∷ places) at long some =
      let out : test b ≡ false = sym (first_some n None places b some at.0 at.1) in
      blocks_filter (n + 1) bs places at.2 (omega (arith, long)) (later_some n None places some)
      ∙ ap (map home_block) (sym (cond-false (test b) (b ∷ filter test bs) (filter test bs) out))
  blocks_filter n (b ∷ bs) (Some x ∷ places) at long some =
      let in' : test b ≡ true = sym (first_some n (Some x) places b some at.0 at.1) in
      let block : n + 1 ≡ home_block b = omega (arith, place_home b at.0, at.1) in
      ap (λ k. k ∷ blocks_from (n + 1 + 1) places) block
      ∙ ap (λ l. home_block b ∷ l)
      (blocks_filter (n + 1) bs places at.2 (omega (arith, long)) (later_some n (Some x) places some))
      ∙ ap (map home_block) (sym (cond-true (test b) (b ∷ filter test bs) (filter test bs) in'))

  pub blocks_are : (places : List (Option X)) → length places ≡ 261
      → ((b : Buf) → IsMetadata b → is_some (get_or places (place_of b) None) ≡ test b)
      → blocks_of places ≡ map home_block (filter test metadata_buffers)
  blocks_are places long some =
      blocks_filter 0 metadata_buffers places metadata_at (long ∙ sym metadata_long)
      (λ b is below. ap (λ k. is_some (get_or places k None)) (omega arith) ∙ some b is)

  pub blocks_count : (places : List (Option X)) → length places ≡ 261
      → ((b : Buf) → IsMetadata b → is_some (get_or places (place_of b) None) ≡ test b)
      → length (blocks_of places) ≡ length (filter test metadata_buffers)
  blocks_count places long some =
      ap length (blocks_are places long some) ∙ length-map (filter test metadata_buffers) home_block

  pub blocks_first : (places : List (Option X)) → length places ≡ 261
      → ((b : Buf) → IsMetadata b → is_some (get_or places (place_of b) None) ≡ test b)
      → slice_get (blocks_of places) 0 ≡ option_map home_block (find test metadata_buffers)
  blocks_first places long some =
      ap (λ l. slice_get l 0) (blocks_are places long some) ∙ first_found test metadata_buffers

-- ---- a place that is written
pub set_some : {X : Type 0} (places : List (Option X)) (at i : ℕ) (x : Option X) → at < length places
    → is_some (get_or (set places at x) i None) ≡ cond (i == at) (is_some x) (is_some (get_or places i None))
set_some places at i x within = elim (cases_eq i at) [
  | inl same ↦
      ap (λ k. is_some (get_or (set places at x) k None)) same
      ∙ ap is_some (get_or-set_same places at x None within)
      ∙ sym (cond-true (i == at) (is_some x) (is_some (get_or places i None)) (eq-eqb i at same))
  | inr other ↦
      ap is_some (get_or-set_other places at i x None (λ e. other e))
      ∙ sym (cond-false (i == at) (is_some x) (is_some (get_or places i None)) (ne_eqb i at other))
]

-- ---- places that are joined
pub joined_long : (a b : List (Option (List ℕ))) → length a ≡ length b → length (joined_all a b) ≡ length a
joined_long [] b long = refl
joined_long (x ∷ a) [] long = refl
joined_long (x ∷ a) (y ∷ b) long = ap suc (joined_long a b (omega (arith, long)))

join_some : (x y : Option (List ℕ)) → is_some (joined x y) ≡ (is_some y || is_some x)
join_some None None = refl
join_some (Some c) None = refl
join_some x (Some c) = refl

pub joined_some : (a b : List (Option (List ℕ))) (i : ℕ) → length a ≡ length b
    → is_some (get_or (joined_all a b) i None) ≡ (is_some (get_or b i None) || is_some (get_or a i None))
joined_some [] [] i long = refl
joined_some [] (y ∷ b) i long = absurd (omega (arith, long))
joined_some (x ∷ a) [] i long = absurd (omega (arith, long))
joined_some (x ∷ a) (y ∷ b) zero long = join_some x y
joined_some (x ∷ a) (y ∷ b) (suc i) long = joined_some a b i (omega (arith, long))

-- no fewer blocks are listed
pub joined_blocks : (a b : List (Option (List ℕ))) (n : ℕ) → length a ≡ length b
    → length (blocks_from n b) ≤ length (blocks_from n (joined_all a b))
joined_blocks [] [] n long = omega arith
joined_blocks [] (y ∷ b) n long = absurd (omega (arith, long))
joined_blocks (x ∷ a) [] n long = absurd (omega (arith, long))
joined_blocks (None ∷ a) (None ∷ b) n long = joined_blocks a b (n + 1) (omega (arith, long))
joined_blocks (Some c ∷ a) (None ∷ b) n long = omega (arith, joined_blocks a b (n + 1) (omega (arith, long)))
joined_blocks (None ∷ a) (Some c ∷ b) n long = omega (arith, joined_blocks a b (n + 1) (omega (arith, long)))
joined_blocks (Some d ∷ a) (Some c ∷ b) n long = omega (arith, joined_blocks a b (n + 1) (omega (arith, long)))
