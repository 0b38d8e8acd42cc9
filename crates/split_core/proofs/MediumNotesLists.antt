-- Laws of lists for the disk: what filters keep of lists that are mapped or filtered, and equal pieces that are joined.
use Rattle.std.proofs.Common.{◌≡◌, ℕ, zero, suc, ◌+◌, ◌*◌, ◌<◌, ◌≤◌, List, [], ◌∷◌, ◌++◌, length, map, filter, slice_get, slice_index_or, take, drop, cond, Bool, true, false, Some, refl, arith, sym, inl, inr, ap, ◌∙◌}
use Rattle.std.specs.Prelude.{All}
use Rattle.std.specs.List.{flat_map, range_with_len}
use Rattle.std.proofs.lemmas.Bool.{cases_Bool, both_ways}
use Rattle.std.proofs.lemmas.List.{length-append, take_at, drop_at, drop-drop}
use Rattle.std.proofs.lemmas.List.Elements.{All-nil, All-cons}
use Rattle.std.proofs.lemmas.Option.{get_or_from_slice_get}
use Rattle.split_types.proofs.Shared.{some_at}
use Rattle.sim_disk.specs.Bytes.{block_of}

-- ---- lists by their elements
pub read_at : {X : Type 0} (xs : List X) (i : ℕ) (x : X) → i < length xs → x ≡ slice_index_or xs i x
    → slice_get xs i ≡ Some x
read_at xs i x below read =
    let there = some_at xs i below in there.1 ∙ ap Some (sym (read ∙ get_or_from_slice_get xs i there.0 x there.1))

pub map_within : {X Y : Type 0} (f g : X → Y) (xs : List X)
    → ((i : ℕ) (x : X) → slice_get xs i ≡ Some x → f x ≡ g x) → map f xs ≡ map g xs
map_within f g [] same = refl
map_within f g (x ∷ xs) same =
    ap (λ y. y ∷ map f xs) (same 0 x refl) ∙ ap (λ l. g x ∷ l) (map_within f g xs (λ i y at. same (suc i) y at))

pub all_from : {X : Type 0} (P : X → Type 0) (xs : List X) → ((i : ℕ) (x : X) → slice_get xs i ≡ Some x → P x)
    → All P xs
all_from P [] each = All-nil P
all_from P (x ∷ xs) each = All-cons P x xs (each 0 x refl) (all_from P xs (λ i y at. each (suc i) y at))

-- ---- what a filter keeps
pub filter-map : {X Y : Type 0} (p : Y → Bool) (f : X → Y) (xs : List X)
    → filter p (map f xs) ≡ map f (filter (λ x. p (f x)) xs)
filter-map p f [] = refl
filter-map p f (x ∷ xs) = by_test (p (f x)) (filter-map p f xs)
  where
    by_test : (b : Bool) → filter p (map f xs) ≡ map f (filter (λ x. p (f x)) xs)
        → cond b (f x ∷ filter p (map f xs)) (filter p (map f xs))
        ≡ map f (cond b (x ∷ filter (λ y. p (f y)) xs) (filter (λ y. p (f y)) xs))
    by_test true rest = ap (λ l. f x ∷ l) rest
    by_test false rest = rest

-- two filters in either order
pub filter_swap : {X : Type 0} (p q : X → Bool) (xs : List X) → filter p (filter q xs) ≡ filter q (filter p xs)
filter_swap p q [] = refl
filter_swap p q (x ∷ xs) = by_tests (p x) (q x) refl refl (filter_swap p q xs)
  where
    by_tests : (a b : Bool) → p x ≡ a → q x ≡ b → filter p (filter q xs) ≡ filter q (filter p xs)
        → filter p (cond b (x ∷ filter q xs) (filter q xs)) ≡ filter q (cond a (x ∷ filter p xs) (filter p xs))
    by_tests true true e f rest = rw (e, f) (ap (λ l. x ∷ l) rest)
    by_tests true false e f rest = rw f rest
    by_tests false true e f rest = rw e rest
    by_tests false false e f rest = rest

-- a filter that keeps all that pass another test
pub filter_keeps : {X : Type 0} (p q : X → Bool) (xs : List X)
    → ((i : ℕ) (x : X) → slice_get xs i ≡ Some x → p x ≡ true → q x ≡ true) → filter p (filter q xs) ≡ filter p xs
filter_keeps p q [] keeps = refl
filter_keeps p q (x ∷ xs) keeps =
    by_test (q x) refl (filter_keeps p q xs (λ i y at. keeps (suc i) y at))
  where
    out : q x ≡ false → p x ≡ false
    out none = elim (cases_Bool (p x)) [ inl is ↦ absurd (both_ways (q x) none (keeps 0 x refl is)) | inr not ↦ not ]

    by_test : (b : Bool) → q x ≡ b → filter p (filter q xs) ≡ filter p xs
        → filter p (cond b (x ∷ filter q xs) (filter q xs)) ≡ cond (p x) (x ∷ filter p xs) (filter p xs)
    by_test true is rest = ap (λ l. cond (p x) (x ∷ l) l) rest
    by_test false is rest = rw (out is) rest

-- ---- blocks that are joined
-- each of these pieces is a block
abbrev pub AreBlocks : (ℕ → List ℕ) → ℕ → ℕ → Type 0
AreBlocks f a n = (i : ℕ) → a ≤ i → i < a + n → length (f i) ≡ 4096

pub blocks_long : (f : ℕ → List ℕ) (a n : ℕ) → AreBlocks f a n → length (flat_map f (range_with_len a n)) ≡ 4096 * n
blocks_long f a zero each = omega arith
blocks_long f a (suc n) each =
    omega (
      arith,
      length-append (f a) (flat_map f (range_with_len (a + 1) n)),
      each a (omega arith) (omega arith),
      blocks_long f (a + 1) n (λ i low high. each i (omega arith) (omega arith)),
    )

-- the one at a place
pub block_joined : (f : ℕ → List ℕ) (a n : ℕ) → AreBlocks f a n → (i : ℕ) → i < n
    → block_of (flat_map f (range_with_len a n)) i ≡ f (a + i)
block_joined f a zero each i below = absurd (omega arith)
block_joined f a (suc n) each zero below =
    let long : length (f a) ≡ 4096 = each a (omega arith) (omega arith)
    in ap (λ k. take 4096 (drop k (f a ++ flat_map f (range_with_len (a + 1) n)))) (none refl)
    ∙ take_at (f a) (flat_map f (range_with_len (a + 1) n)) 4096 long
    ∙ ap f (same refl)
  where
    none : a ≡ a → 4096 * 0 ≡ 0
    none e = omega arith

    same : a ≡ a → a ≡ a + 0
    same e = omega arith
block_joined f a (suc n) each (suc i) below =
    let long : length (f a) ≡ 4096 = each a (omega arith) (omega arith)
    in let more : 4096 * suc i ≡ 4096 + 4096 * i = omega arith
    in let next : (a + 1) + i ≡ a + suc i = omega arith
    in ap (λ k. take 4096 (drop k (f a ++ flat_map f (range_with_len (a + 1) n)))) more
    ∙ ap (take 4096) (past (f a) (flat_map f (range_with_len (a + 1) n)) long)
    ∙ block_joined f (a + 1) n (λ j low high. each j (omega arith) (omega arith)) i (omega arith)
    ∙ ap f next
  where
    past : (xs ys : List ℕ) → length xs ≡ 4096 → drop (4096 + 4096 * i) (xs ++ ys) ≡ drop (4096 * i) ys
    past xs ys long =
        sym (drop-drop (4096 * i) 4096 (xs ++ ys)) ∙ ap (drop (4096 * i)) (drop_at xs ys 4096 long)
