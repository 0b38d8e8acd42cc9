-- Writes that come in flight and go.
use Rattle.std.proofs.Common.{◌≡◌, ℕ, ◌≤◌, ◌⊎◌, List, [], ◌∷◌, ◌++◌, filter, find, cond, Bool, true, false, Some, None, refl, sym, ap, subst, ◌∙◌, inl, inr, arith, All, count_by}
use Rattle.std.proofs.lemmas.Bool.{cases_Bool, cond-true, cond-false}
use Rattle.std.proofs.lemmas.Bool.Decides.{nat_tests}
use Rattle.std.proofs.lemmas.List.Elements.{All-push, All-filter}
use Rattle.std.proofs.lemmas.List.Kept.{AllPairs-filter}
use Rattle.std.proofs.lemmas.List.Quantifiers.{all_pairs_push}
use Rattle.std.proofs.lemmas.Option.{none-some, slice_get_within, get_or_from_slice_get}
use Rattle.split_types.specs.declared.ids.ReqId.{ReqId}
use Rattle.split_types.proofs.Lists.{find_there, count_push, count_no, count_filter_less}
use Rattle.sim_disk.specs.Medium.{InFlight, AreApart, is_of, write_of}
use Rattle.sim_disk.specs.Fields.{IsWithin, AreInFlight}

-- what a search says of all elements
pub none_found : {X : Type 0} (p : X → Bool) (xs : List X) → find p xs ≡ None → count_by p xs ≡ 0
none_found p [] none = refl
none_found p (x ∷ xs) none = elim (cases_Bool (p x)) [
  | inl here ↦ absurd (none-some x (sym none ∙ cond-true (p x) (Some x) (find p xs) here))
  | inr past ↦ count_no p x xs past ∙ none_found p xs (sym (cond-false (p x) (Some x) (find p xs) past) ∙ none)
]

-- the first that a filter keeps is the one that a search finds
pub find_filtered : {X : Type 0} (p : X → Bool) (xs : List X) (x : X) (rest : List X) → filter p xs ≡ x ∷ rest
    → find p xs ≡ Some x
find_filtered p [] x rest kept = absurd (cc)
find_filtered p (y ∷ ys) x rest kept = by_test (p y) kept (find_filtered p ys x rest)
  where
    by_test : (b : Bool) → cond b (y ∷ filter p ys) (filter p ys) ≡ x ∷ rest
        → (filter p ys ≡ x ∷ rest → find p ys ≡ Some x) → cond b (Some y) (find p ys) ≡ Some x
    by_test true kept later = cc
    by_test false kept later = later kept

-- what holds of all holds of what a search finds
pub all_found : {X : Type 0} (P : X → Type 0) (p : X → Bool) (xs : List X) (x : X) → All P xs → find p xs ≡ Some x → P x
all_found P p xs x all found =
    let there = find_there p xs x found in
    subst P (get_or_from_slice_get xs there.0 x x there.1) (all there.0 x (slice_get_within xs there.0 x there.1))

cond_one : (b : Bool) → cond b 1 0 ≤ 1
cond_one true = omega arith
cond_one false = omega arith

-- a write that comes in flight
pub started : (size : ℕ) (writes : List InFlight) (w : InFlight) → AreInFlight size writes → IsWithin size w
    → All (AreApart w) writes → write_of writes w.id ≡ None → AreInFlight size (writes ++ w ∷ [])
started size writes w before within apart other = record {
  within = All-push (IsWithin size) writes w before.within within;
  apart = all_pairs_push AreApart writes w before.apart
      (λ k d inside. elim (apart k d inside) [ inl below ↦ inr below | inr above ↦ inl above ]);
  once = λ id. by_test id (cases_Bool (is_of id w));
}
  where
    by_test : (id : ReqId) → (is_of id w ≡ true) ⊎ (is_of id w ≡ false) → count_by (is_of id) (writes ++ w ∷ []) ≤ 1
    by_test id (inl here) =
        let same : w.id ≡ id = ap (λ (n : ℕ). let x : ReqId = record { 0 = n } in x) (grind (arith, nat_tests)) in
        let none : count_by (is_of id) writes ≡ 0 = subst (λ x. count_by (is_of x) writes ≡ 0) same
        (none_found (is_of w.id) writes other) in
        omega (arith, none, count_push (is_of id) writes w, cond_one (is_of id w))
    by_test id (inr past) = omega (
      arith,
      before.once id,
      count_push (is_of id) writes w,
      ap {B = ℕ} (λ b. cond b 1 0) past,
    )

-- writes of which some go
pub ended : (size : ℕ) (writes : List InFlight) (p : InFlight → Bool) → AreInFlight size writes
    → AreInFlight size (filter p writes)
ended size writes p before = record {
  within = All-filter p (IsWithin size) writes before.within;
  apart = AllPairs-filter AreApart p writes before.apart;
  once = λ id. omega (arith, before.once id, count_filter_less (is_of id) p writes);
}
