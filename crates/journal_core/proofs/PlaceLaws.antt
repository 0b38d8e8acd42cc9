-- Laws of lists of places that stand for blocks.
use Rattle.std.proofs.Common.{◌≡◌, ℕ, zero, suc, ◌+◌, ◌-◌, ◌<◌, ◌≤◌, List, [], ◌∷◌, ◌++◌, map, length, get_or, set, take, drop, replicate, cond, Bool, true, Option, Some, None, refl, ap, sym, ◌∙◌, arith, append_assoc, length-append, length-drop, length-take-le}
use Rattle.std.specs.Prelude.{not, nat_lt, slice_get}
use Rattle.std.proofs.lemmas.Bool.Decides.{nat_tests}
use Rattle.std.specs.Option.{option_map, is_some}
use Rattle.std.specs.Int.{from_bool}
use Rattle.std.proofs.lemmas.List.{get_or_read, drop_more, take_more, length-replicate, replicate_more, set_at, get_or-append_right}
use Rattle.journal_core.specs.Places.{blocks_from, blocks_of}

-- a list of which the first places were emptied, with one place more
pub emptied-more : {X : Type 0} (places now : List (Option X)) (at : ℕ) → at < length places
    → now ≡ replicate at None ++ drop at places → set now at None ≡ replicate (at + 1) None ++ drop (at + 1) places
emptied-more places now at within is =
    ap (λ xs. set xs at None) (is ∙ ap (λ xs. replicate at None ++ xs) (drop_more places at None within))
    ∙ set_at (replicate at None) (get_or places at None) (drop (at + 1) places) None at (length-replicate at None)
    ∙ sym (append_assoc (replicate at None) (None ∷ []) (drop (at + 1) places))
    ∙ ap (λ xs. xs ++ drop (at + 1) places) (replicate_more at None)

pub emptied-get : {X : Type 0} (places now : List (Option X)) (at : ℕ) → at < length places
    → now ≡ replicate at None ++ drop at places → get_or now at None ≡ get_or places at None
emptied-get places now at within is =
    let rest : get_or (drop at places) (at - at) None ≡ get_or places at None =
    let none : at - at ≡ 0 = omega arith in rw (drop_more places at None within, none) refl in
    ap (λ xs. get_or xs at None) is
    ∙ get_or-append_right (replicate at None) (drop at places) at at None (length-replicate at None) (omega arith)
    ∙ rest

pub emptied-length : {X : Type 0} (places now : List (Option X)) (at : ℕ) → at < length places
    → now ≡ replicate at None ++ drop at places → at < length now
emptied-length {X} places now at within is =
    let whole : length now ≡ length (replicate {A = Option X} at None) + length (drop at places) =
    ap length is ∙ length-append (replicate at None) (drop at places) in
    omega (arith, whole, length-replicate {A = Option X} at None, length-drop at places)

-- ---- the blocks of places

no-blocks-from : (X : Type 0) (block count : ℕ) → blocks_from {X = X} block (replicate count None) ≡ []
no-blocks-from X block zero = refl
no-blocks-from X block (suc count) = no-blocks-from X (block + 1) count

pub no-blocks : (X : Type 0) (count : ℕ) → blocks_of {X = X} (replicate count None) ≡ []
no-blocks X count = no-blocks-from X 1 count

-- what a list has behind its first items
pub drop-first : {X : Type 0} (xs : List X) (n : ℕ) → slice_get (drop n xs) 0 ≡ slice_get xs n
drop-first [] zero = refl
drop-first [] (suc n) = refl
drop-first (x ∷ xs) zero = refl
drop-first (x ∷ xs) (suc n) = drop-first xs n

module _ {X : Type 0} where
  blocks-push : (block : ℕ) (places : List (Option X)) (place : Option X)
      → blocks_from block (places ++ place ∷ []) ≡ blocks_from block places
      ++ cond (is_some place) ((block + length places) ∷ []) []
  blocks-push block [] None = refl
  blocks-push block [] (Some x) = let none : block + 0 ≡ block = omega arith in rw none refl
  blocks-push block (None ∷ places) place =
      let next : block + 1 + length places ≡ block + suc (length places) = omega arith in
      blocks-push (block + 1) places place
      ∙ ap (λ n. blocks_from (block + 1) places ++ cond (is_some place) (n ∷ []) []) next
  blocks-push block (Some x ∷ places) place =
      let next : block + 1 + length places ≡ block + suc (length places) = omega arith in
      ap (λ blocks. block ∷ blocks)
      (blocks-push (block + 1) places place ∙ ap (λ n. blocks_from (block + 1) places
      ++ cond (is_some place) (n ∷ []) []) next)

  -- the blocks of the first places, with one place more
  pub blocks-more : (places : List (Option X)) (at : ℕ) → at < length places
      → blocks_of (take (at + 1) places) ≡ blocks_of (take at places)
      ++ cond (is_some (get_or places at None)) ((at + 1) ∷ []) []
  blocks-more places at within =
      let len : length (take at places) ≡ at = length-take-le at places (omega arith) in
      let first : 1 + length (take at places) ≡ at + 1 = omega (arith, len) in
      ap blocks_of (take_more places at None within) ∙ blocks-push 1 (take at places) (get_or places at None)
      ∙ ap (λ n. blocks_of (take at places) ++ cond (is_some (get_or places at None)) (n ∷ []) []) first

  blocks-few : (block : ℕ) (places : List (Option X)) → length (blocks_from block places) ≤ length places
  blocks-few block [] = omega arith
  blocks-few block (None ∷ places) = omega (arith, blocks-few (block + 1) places)
  blocks-few block (Some x ∷ places) = omega (arith, blocks-few (block + 1) places)

  pub blocks-at_most : (places : List (Option X)) → length (blocks_of places) ≤ length places
  blocks-at_most places = blocks-few 1 places

  -- where a place is written
  count-from : (block : ℕ) (places : List (Option X)) (at : ℕ) (place : Option X) → at < length places
      → length (blocks_from block (set places at place)) + cond (is_some (get_or places at None)) 1 0
      ≡ length (blocks_from block places) + cond (is_some place) 1 0
  count-from block [] at place within = absurd (omega (arith, within))
  count-from block (None ∷ places) zero None within = refl
  count-from block (None ∷ places) zero (Some y) within = omega arith
  count-from block (Some x ∷ places) zero None within = omega arith
  count-from block (Some x ∷ places) zero (Some y) within = refl
  count-from block (None ∷ places) (suc at) place within =
      count-from (block + 1) places at place (omega (arith, within))
  count-from block (Some x ∷ places) (suc at) place within =
      omega (arith, count-from (block + 1) places at place (omega (arith, within)))

  pub count-set : (places : List (Option X)) (at : ℕ) (place : Option X) → at < length places
      → length (blocks_of (set places at place)) + cond (is_some (get_or places at None)) 1 0
      ≡ length (blocks_of places) + cond (is_some place) 1 0
  count-set places at place within = count-from 1 places at place within

  -- the blocks are those of the places' numbers
  pub blocks-map : {Y : Type 0} (f : X → Y) (block : ℕ) (places : List (Option X))
      → blocks_from block (map (option_map f) places) ≡ blocks_from block places
  blocks-map f block [] = refl
  blocks-map f block (None ∷ places) = blocks-map f (block + 1) places
  blocks-map f block (Some x ∷ places) = ap (λ blocks. block ∷ blocks) (blocks-map f (block + 1) places)

  -- the first block: its place has something, and without it the others are left
  first-from : (block first : ℕ) (places : List (Option X)) (rest : List ℕ) → blocks_from block places ≡ first ∷ rest
      → (block ≤ first) × (first - block < length places) × (blocks_from block (set places (first - block) None) ≡ rest)
  first-from block first [] rest is = absurd (cc)
  first-from block first (None ∷ places) rest is =
      let found = first-from (block + 1) first places rest is in
      let at : first - block ≡ suc (first - (block + 1)) = omega (arith, found.0) in
      (omega (arith, found.0), omega (arith, found.0, found.1), rw at found.2)
  first-from block first (Some x ∷ places) rest is =
      let same : block ≡ first = cc in
      let others : blocks_from (block + 1) places ≡ rest = cc in
      let at : first - block ≡ 0 = omega (arith, same) in
      (omega (arith, same), omega (arith, at), rw at others)

  pub first-carried : (places : List (Option X)) (first : ℕ) (rest : List ℕ) → blocks_of places ≡ first ∷ rest
      → (1 ≤ first) × (first - 1 < length places) × (blocks_of (set places (first - 1) None) ≡ rest)
  first-carried places first rest is = first-from 1 first places rest is

  -- ---- how many places have something

  not-taken : (place : Option X) (b : Bool) (r : ℕ) → b ≡ is_some place → r ≡ from_bool (not b)
      → r + cond (is_some place) 1 0 ≡ 1
  not-taken None b r is given = omega (arith, given ∙ ap (λ b. from_bool (not b)) is)
  not-taken (Some x) b r is given = omega (arith, given ∙ ap (λ b. from_bool (not b)) is)

  was-taken : (place : Option X) (b : Bool) (r : ℕ) → b ≡ is_some place → r ≡ from_bool b → r ≡ cond (is_some place) 1 0
  was-taken None b r is given = given ∙ ap from_bool is
  was-taken (Some x) b r is given = given ∙ ap from_bool is

  pub count-put : (places : List (Option X)) (at : ℕ) (x : X) (place : Option X) (b : Bool) (taken r : ℕ)
      → at < length places
      → place ≡ get_or places at None → b ≡ is_some place → r ≡ from_bool (not b) → taken ≡ length (blocks_of places)
      → taken + r ≡ length (blocks_of (set places at (Some x)))
  count-put places at x place b taken r within read is given counted =
      let old : ◌≡◌ {A = ℕ} (cond (is_some place) 1 0) (cond (is_some (get_or places at None)) 1 0) =
      ap (λ x. cond (is_some x) 1 0) read in
      omega (arith, count-set places at (Some x) within, not-taken place b r is given, old, counted)

  pub count-free : (places : List (Option X)) (at : ℕ) (place : Option X) (b : Bool) (taken r : ℕ) → at < length places
      → place ≡ get_or places at None → b ≡ is_some place → r ≡ from_bool b → taken ≡ length (blocks_of places)
      → (r ≤ taken) × (taken - r ≡ length (blocks_of (set places at None)))
  count-free places at place b taken r within read is given counted =
      let old : ◌≡◌ {A = ℕ} (cond (is_some place) 1 0) (cond (is_some (get_or places at None)) 1 0) =
      ap (λ x. cond (is_some x) 1 0) read in
      let gone : ◌≡◌ {A = ℕ} r (cond (is_some place) 1 0) = was-taken place b r is given in
      let sum : length (blocks_of (set places at None)) + cond (is_some (get_or places at None)) 1 0
      ≡ length (blocks_of places) + 0 =
      count-set places at None within in
      (omega (arith, sum, gone, old, counted), omega (arith, sum, gone, old, counted))

  -- ---- the blocks that are left of a round

  pub round-left : (places : List (Option X)) (homes : List ℕ) (carried : ℕ) → drop carried homes ≡ blocks_of places
      → length (blocks_of places) ≡ length homes - carried
  round-left places homes carried left = ap length (sym left) ∙ length-drop carried homes

  pub round-first : (places : List (Option X)) (homes : List ℕ) (carried first : ℕ)
      → drop carried homes ≡ blocks_of places
      → carried < length homes → first ≡ get_or homes carried 0 → blocks_of places ≡ first ∷ drop (carried + 1) homes
  round-first places homes carried first left within read =
      sym left ∙ drop_more homes carried 0 within ∙ ap (λ x. x ∷ drop (carried + 1) homes) (sym read)

-- what holds of the home block that is carried next, read from a list of homes
pub record IsNext {X : Type 0} (places : List (Option X)) (homes : List ℕ) (carried first : ℕ) : Type 0 where
  pub some : 1 ≤ first
  pub within : first - 1 < length places
  pub rest : blocks_of (set places (first - 1) None) ≡ drop (carried + 1) homes
  pub here : slice_get (blocks_of places) 0 ≡ Some first

pub next-is : {X : Type 0} (places : List (Option X)) (homes : List ℕ) (carried first : ℕ)
    → drop carried homes ≡ blocks_of places
    → carried < length homes → first ≡ get_or homes carried first → IsNext places homes carried first
next-is places homes carried first left within read =
    let blocks : blocks_of places ≡ first ∷ drop (carried + 1) homes =
    round-first places homes carried first left within (get_or_read homes carried first within read 0) in
    let found = first-carried places first (drop (carried + 1) homes) blocks in
    record { some = found.0; within = found.1; rest = found.2; here = ap (λ xs. slice_get xs 0) blocks }

-- some home is left where some block is
pub left-within : {X Y : Type 0} (f : X → Y) (places : List (Option X)) (seen : List (Option Y)) (homes : List ℕ)
    (carried : ℕ)
    → drop carried homes ≡ blocks_of places → map (option_map f) places ≡ seen → 0 < length (blocks_of seen)
    → carried < length homes
left-within f places seen homes carried left is some =
    omega (
      arith,
      some,
      ap (λ xs. length (blocks_of xs)) is,
      ap length (blocks-map f 1 places),
      round-left places homes carried left,
    )

-- the first block is seen alike
pub seen-first : {X Y : Type 0} (f : X → Y) (places : List (Option X)) (seen : List (Option Y)) (first : ℕ)
    → map (option_map f) places ≡ seen → slice_get (blocks_of places) 0 ≡ Some first
    → slice_get (blocks_of seen) 0 ≡ Some first
seen-first f places seen first is here =
    ap (λ xs. slice_get (blocks_of xs) 0) (sym is) ∙ ap (λ xs. slice_get xs 0) (blocks-map f 1 places) ∙ here

pub left-test : (carried len left : ℕ) → left ≡ len - carried → nat_lt carried len ≡ nat_lt 0 left
left-test carried len left is = grind (arith, nat_tests)

pub some-left : (left : ℕ) → nat_lt 0 left ≡ true → 0 < left
some-left left is = grind (arith, nat_tests)

-- empty places, seen by what they have
pub empty-map : {X Y : Type 0} (f : X → Y) (count : ℕ)
    → map (option_map f) (replicate count None) ≡ replicate count None
empty-map f zero = refl
empty-map f (suc count) = ap (λ xs. None ∷ xs) (empty-map f count)
