-- How many different sets a store of tags keeps: as many as a list has whose sets are exactly those of the tags in use.
use Rattle.std.proofs.Common.{◌≡◌, ℕ, zero, suc, ◌<◌, ◌≤◌, List, [], ◌∷◌, length, map, get_or, Bool, true, false, cond, Contains, refl, ap, sym, subst, ◌∙◌, arith, inl, inr}
use Rattle.std.specs.Cmp.{IsEquivalence}
use Rattle.std.specs.List.{list_any}
use Rattle.std.specs.Str.{bytes_eq}
use Rattle.std.specs.Set.{is_member, unique_keys}
use Rattle.std.proofs.lemmas.Bool.{false_from_ne_true, or_cases, or_left, or_right}
use Rattle.std.proofs.lemmas.List.{get_or_default, get_or-map, length-map}
use Rattle.std.proofs.lemmas.Map.Keys.{IsDistinct-from_apart, below_from_sorted, sorted_from_strictly_increasing}
use Rattle.std.proofs.lemmas.Map.Made.{length-from_keys}
use Rattle.std.proofs.lemmas.Slice.Eq.{bytes_eq-Decides}
use Rattle.split_types.specs.LiveSets.{each_once}
use Rattle.cause_set.specs.Tags.{Tags}
use Rattle.tag_table.specs.Tags.{AreShared, AreInUse}

-- the set stands in the list
abbrev pub IsIn : List (List ℕ) → List ℕ → Type 0
IsIn sets set = list_any (bytes_eq set) sets ≡ true

-- it is the set of a tag in use
abbrev pub IsUsed : Tags → List ℕ → Type 0
IsUsed tags set = (n : ℕ) × (1 ≤ tags.uses n) × (tags.members n ≡ set)

-- ---- equal sets
pub equals : (a b : List ℕ) → bytes_eq a b ≡ true → a ≡ b
equals a b same = (bytes_eq-Decides a b).0 same

pub equal : (a b : List ℕ) → a ≡ b → bytes_eq a b ≡ true
equal a b same = (bytes_eq-Decides a b).1 same

-- two tests that hold together
pub same_test : (a b : Bool) → (a ≡ true → b ≡ true) → (b ≡ true → a ≡ true) → a ≡ b
same_test true b f g = sym (f refl)
same_test false true f g = g refl
same_test false false f g = refl

equality : IsEquivalence bytes_eq
equality = record {
  refl = λ a. equal a a refl;
  symm = λ a b. same_test (bytes_eq a b) (bytes_eq b a) (λ s. equal b a (sym (equals a b s)))
      (λ s. equal a b (sym (equals b a s)));
  congr = λ a b c same. ap (λ x. bytes_eq x c) (equals a b same);
}

-- ---- each once
once_is : (sets : List (List ℕ)) → unique_keys bytes_eq sets ≡ each_once sets
once_is [] = refl
once_is (set ∷ sets) = ap (λ l. cond (list_any (bytes_eq set) sets) l (set ∷ l)) (once_is sets)

-- ---- the sets of some numbers
module _ (f : ℕ → List ℕ) where
  set_number : (xs : List ℕ) (set : List ℕ) → IsIn (map f xs) set
      → (i : ℕ) × (i < length xs) × (f (get_or xs i 0) ≡ set)
  set_number [] set is = absurd (cc)
  set_number (x ∷ xs) set is = elim (or_cases (bytes_eq set (f x)) (list_any (bytes_eq set) (map f xs)) is) [
    | inl here ↦ (0, omega arith, sym (equals set (f x) here))
    | inr later ↦ (let there = set_number xs set later in (suc there.0, omega (arith, there.1), there.2))
  ]

  number_set : (xs : List ℕ) (set : List ℕ) (i : ℕ) → i < length xs → f (get_or xs i 0) ≡ set → IsIn (map f xs) set
  number_set [] set i below is = absurd (omega (arith, below))
  number_set (x ∷ xs) set zero below is =
      or_left (bytes_eq set (f x)) (list_any (bytes_eq set) (map f xs)) (equal set (f x) (sym is))
  number_set (x ∷ xs) set (suc i) below is =
      or_right (bytes_eq set (f x)) (list_any (bytes_eq set) (map f xs))
      (number_set xs set i (omega (arith, below)) is)

-- ---- so many different sets
module _ (tags : Tags) (kept : List (List ℕ)) (count : ℕ) (used : AreInUse tags count) (shared : AreShared tags)
    (there : (set : List ℕ) → IsIn kept set → IsUsed tags set)
    (back : (n : ℕ) → 1 ≤ tags.uses n → IsIn kept (tags.members n)) where
  abbrev sets : List (List ℕ)
  sets = map tags.members used.numbers

  number_used : (i : ℕ) → i < length used.numbers → 1 ≤ tags.uses (get_or used.numbers i 0)
  number_used i below =
      let n = get_or used.numbers i 0 in
      (used.in_use n).0 (i, below, get_or_default used.numbers i n 0 below)

  apart : (i j : ℕ) (d : List ℕ) → i < j → j < length sets
      → bytes_eq (get_or sets i d) (get_or sets j d) ≡ false
  apart i j d before within =
      let below : j < length used.numbers = omega (arith, within, length-map used.numbers tags.members) in
      let m = get_or used.numbers i 0 in
      let n = get_or used.numbers j 0 in
      let rising : m < n =
      below_from_sorted used.numbers i j 0 (sorted_from_strictly_increasing used.numbers used.once) before below in
      let first : get_or sets i d ≡ tags.members m =
      get_or-map tags.members used.numbers i 0 d (omega (arith, before, below)) in
      let second : get_or sets j d ≡ tags.members n = get_or-map tags.members used.numbers j 0 d below in
      false_from_ne_true (bytes_eq (get_or sets i d) (get_or sets j d))
      (λ same. omega (
        arith,
        rising,
        shared m n (number_used i (omega (arith, before, below))) (number_used j below)
            (sym first ∙ equals (get_or sets i d) (get_or sets j d) same ∙ second),
      ))

  alike : (set : List ℕ) → is_member bytes_eq sets set ≡ is_member bytes_eq kept set
  alike set =
      same_test (list_any (bytes_eq set) sets) (list_any (bytes_eq set) kept)
      (λ is. let n = set_number tags.members used.numbers set is in
      subst (IsIn kept) n.2 (back (get_or used.numbers n.0 0) (number_used n.0 n.1)))
      (λ is. let n = there set is in
      let listed : Contains used.numbers n.0 = (used.in_use n.0).1 n.1 in
      number_set tags.members used.numbers set listed.0 listed.1
      (ap tags.members (get_or_default used.numbers listed.0 0 n.0 listed.1 ∙ listed.2) ∙ n.2))

  pub sets_counted : count ≡ length (each_once kept)
  sets_counted =
      used.counted ∙ sym (length-map used.numbers tags.members)
      ∙ length-from_keys equality sets kept (IsDistinct-from_apart bytes_eq sets apart) alike
      ∙ ap length (once_is kept)
