-- What lists of processes have together, where more are joined to them.
use Rattle.std.proofs.Common.{◌≡◌, ℕ, zero, suc, ◌+◌, ◌<◌, List, [], ◌∷◌, ◌++◌, length, map, get_or, Bool, true, false, ◌||◌, ◌&&◌, Option, Some, None, refl, arith, sym, ◌∙◌, ap}
use Rattle.std.specs.List.{flat_map}
use Rattle.std.proofs.lemmas.List.{map-append}
use Rattle.std.proofs.lemmas.List.Concat.{flat_map-cons}
use Rattle.std.proofs.lemmas.List.Folds.{list_any-append}
use Rattle.split_types.specs.Sets.{has, some_has, pids, union_of, IsSet}
use Rattle.split_types.proofs.Sets.{union-one, union-flat, union-same, union-is_set, has-union_of}
use Rattle.journal_core.specs.Causes.{wider, joined, joined_all, all_in, together, whole_of}
use Rattle.journal_core.specs.Places.{blocks_from, blocks_of}

-- ---- more processes join
turned : (more : List ℕ) (old : List (List ℕ)) (p : ℕ) → some_has (old ++ more ∷ []) p ≡ some_has (more ∷ old) p
turned more old p = list_any-append (λ xs. has xs p) old (more ∷ []) ∙ or_turned (some_has old p) (has more p)
  where
    or_turned : (x y : Bool) → (x || (y || false)) ≡ (y || x)
    or_turned true true = refl
    or_turned true false = refl
    or_turned false true = refl
    or_turned false false = refl

pub wider_is : (old : List (List ℕ)) (more : List ℕ) → IsSet more
    → Some (wider (together old) more) ≡ together (more ∷ old)
wider_is [] more set = ap Some (sym (union-one more set))
wider_is (causes ∷ old) more set =
    ap Some
    (union-flat (causes ∷ old) (more ∷ [])
    ∙ union-same ((causes ∷ old) ++ more ∷ []) (more ∷ causes ∷ old) (λ p is. turned more (causes ∷ old) p))

pub joined_is : (old new : List (List ℕ)) → joined (together old) (together new) ≡ together (new ++ old)
joined_is old [] = refl
joined_is old (causes ∷ new) =
    wider_is old (union_of (causes ∷ new)) (union-is_set (causes ∷ new)) ∙ ap Some (union-flat (causes ∷ new) old)

-- two lists, place by place
pub joined_long : (places others : List (Option (List ℕ))) → length (joined_all places others) ≡ length places
joined_long [] others = refl
joined_long (place ∷ places) [] = refl
joined_long (place ∷ places) (other ∷ others) = ap (λ n. suc n) (joined_long places others)

pub joined_at : (places others : List (Option (List ℕ))) (k : ℕ) → length places ≡ length others
    → get_or (joined_all places others) k None ≡ joined (get_or places k None) (get_or others k None)
joined_at [] [] k same = refl
joined_at [] (other ∷ others) k same = absurd (omega (arith, same))
joined_at (place ∷ places) [] k same = absurd (omega (arith, same))
joined_at (place ∷ places) (other ∷ others) zero same = refl
joined_at (place ∷ places) (other ∷ others) (suc k) same = joined_at places others k (omega (arith, same))

-- ---- what all have
pub whole_is : (places : List (Option (List ℕ))) → 0 < length (blocks_of places)
    → whole_of places ≡ Some (union_of (all_in places))
whole_is places some = by_list (all_in places) refl
  where
    none_from : (block : ℕ) (places : List (Option (List ℕ))) → all_in places ≡ []
        → length (blocks_from block places) ≡ 0
    none_from block [] none = refl
    none_from block (None ∷ places) none = none_from (block + 1) places none
    none_from block (Some x ∷ places) none = absurd (cc)

    by_list : (all : List (List ℕ)) → all_in places ≡ all → together all ≡ Some (union_of all)
    by_list [] none = absurd (omega (arith, some, none_from 1 places none))
    by_list (causes ∷ more) is = refl

has_all : {X : Type 0} (f : X → List (List ℕ)) (xs : List X) (p : ℕ) → has pids p ≡ true
    → some_has (all_in (map (λ x. together (f x)) xs)) p ≡ some_has (flat_map f xs) p
has_all f [] p is = refl
has_all f (x ∷ xs) p is = by_list (f x) (has_all f xs p is)
  where
    more : List (List ℕ)
    more = all_in (map (λ x. together (f x)) xs)

    by_list : (here : List (List ℕ)) → some_has more p ≡ some_has (flat_map f xs) p
        → some_has (all_in (together here ∷ map (λ x. together (f x)) xs)) p ≡ some_has (here ++ flat_map f xs) p
    by_list [] rest = rest
    by_list (causes ∷ here) rest =
        ap (λ t. t || some_has more p) (held (causes ∷ here)) ∙ ap (λ t. some_has (causes ∷ here) p || t) rest
        ∙ sym (list_any-append (λ xs. has xs p) (causes ∷ here) (flat_map f xs))
      where
        held : (sets : List (List ℕ)) → has (union_of sets) p ≡ some_has sets p
        held sets = has-union_of sets p ∙ both (has pids p) (some_has sets p) is
          where
            both : (a b : Bool) → a ≡ true → (a && b) ≡ b
            both true b is = refl
            both false b is = absurd (cc)

pub union_all : {X : Type 0} (f : X → List (List ℕ)) (xs : List X)
    → union_of (all_in (map (λ x. together (f x)) xs)) ≡ union_of (flat_map f xs)
union_all f xs = union-same (all_in (map (λ x. together (f x)) xs)) (flat_map f xs) (λ p is. has_all f xs p is)

-- a map of all that stands in lists
pub map_all : {X : Type 0} (f : ℕ → List ℕ) (g : X → List ℕ) (xs : List X)
    → flat_map (λ x. map f (g x)) xs ≡ map f (flat_map g xs)
map_all f g [] = refl
map_all f g (x ∷ xs) =
    flat_map-cons (λ y. map f (g y)) x xs ∙ ap (λ l. map f (g x) ++ l) (map_all f g xs)
    ∙ sym (map-append f (g x) (flat_map g xs)) ∙ ap (map f) (sym (flat_map-cons g x xs))

-- lists of the values of some things
pub flat_values : {X Y A : Type 0} (f : Y → List A) (g : X → Y) (xs : List X)
    → flat_map (λ x. f (g x)) xs ≡ flat_map f (map g xs)
flat_values f g [] = refl
flat_values f g (x ∷ xs) =
    flat_map-cons (λ y. f (g y)) x xs ∙ ap (λ l. f (g x) ++ l) (flat_values f g xs)
    ∙ sym (flat_map-cons f (g x) (map g xs))
