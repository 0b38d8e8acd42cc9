-- Laws of lists: what a filter keeps, and what passes in a list with one more.
use Rattle.std.proofs.Common.{◌≡◌, ℕ, zero, suc, ◌≤◌, List, [], ◌∷◌, ◌++◌, slice_get, filter, count_by, Bool, true, false, ◌||◌, ◌⊎◌, Some, refl, arith, subst, sym, inl, inr, ap, ◌∙◌}
use Rattle.std.specs.List.{list_any}
use Rattle.std.proofs.lemmas.Bool.{cases_Bool, both_ways, or_cases, cond-true, cond-false}
use Rattle.std.proofs.lemmas.List.Folds.{list_any-append}
use Rattle.std.proofs.lemmas.Option.{same_Some}
use Rattle.split_types.proofs.Lists.{counted_here, count_yes, count_no, none_in_filter}

-- ---- which case of a test is taken
pub case_true : {A : Type 0} (t : Bool) (x y : A) → t ≡ true → ◌≡◌ {A = A} (elim t [ true ↦ x | false ↦ y ]) x
case_true true x y is = refl
case_true false x y is = absurd (cc)

pub case_false : {A : Type 0} (t : Bool) (x y : A) → t ≡ false → ◌≡◌ {A = A} (elim t [ true ↦ x | false ↦ y ]) y
case_false true x y is = absurd (cc)
case_false false x y is = refl

-- ---- one that passes
-- two places that pass a test which is passed once at most are one
pub one_passes : {X : Type 0} (p : X → Bool) (xs : List X) (i j : ℕ) (x y : X) → slice_get xs i ≡ Some x
    → slice_get xs j ≡ Some y → p x ≡ true → p y ≡ true → count_by p xs ≤ 1 → i ≡ j
one_passes p [] i j x y at there first second few = absurd (cc)
one_passes p (z ∷ zs) zero zero x y at there first second few = refl
one_passes p (z ∷ zs) zero (suc j) x y at there first second few =
    absurd (omega (
      arith,
      count_yes p z zs (subst (λ t. p t ≡ true) (sym (same_Some z x at)) first),
      counted_here p zs j y there second,
      few,
    ))
one_passes p (z ∷ zs) (suc i) zero x y at there first second few =
    absurd (omega (
      arith,
      count_yes p z zs (subst (λ t. p t ≡ true) (sym (same_Some z y there)) second),
      counted_here p zs i x at first,
      few,
    ))
one_passes p (z ∷ zs) (suc i) (suc j) x y at there first second few =
    ap suc (one_passes p zs i j x y at there first second (fewer (cases_Bool (p z))))
  where
    fewer : (p z ≡ true) ⊎ (p z ≡ false) → count_by p zs ≤ 1
    fewer (inl here) = omega (arith, count_yes p z zs here, few)
    fewer (inr past) = omega (arith, count_no p z zs past, few)

-- what stands in a list and passes is kept
pub in_filter : {X : Type 0} (p : X → Bool) (xs : List X) (j : ℕ) (x : X) → slice_get xs j ≡ Some x → p x ≡ true
    → (i : ℕ) × (slice_get (filter p xs) i ≡ Some x)
in_filter p [] j x at passes = absurd (cc)
in_filter p (y ∷ ys) zero x at passes =
    let first : p y ≡ true = subst (λ z. p z ≡ true) (sym (same_Some y x at)) passes in
    (0, ap (λ l. slice_get l 0) (cond-true (p y) (y ∷ filter p ys) (filter p ys) first) ∙ at)
in_filter p (y ∷ ys) (suc j) x at passes =
    let rest = in_filter p ys j x at passes in
    elim (cases_Bool (p y)) [
      | inl kept ↦ (
        suc rest.0,
        ap (λ l. slice_get l (suc rest.0)) (cond-true (p y) (y ∷ filter p ys) (filter p ys) kept) ∙ rest.1,
      )
      | inr out ↦ (
        rest.0,
        ap (λ l. slice_get l rest.0) (cond-false (p y) (y ∷ filter p ys) (filter p ys) out) ∙ rest.1,
      )
    ]

-- what passes and is kept was there
pub any_filter : {X : Type 0} (p q : X → Bool) (xs : List X) → list_any p (filter q xs) ≡ true → list_any p xs ≡ true
any_filter p q xs any = elim (cases_Bool (list_any p xs)) [
  | inl is ↦ is
  | inr none ↦ absurd (both_ways (list_any p (filter q xs)) (none_in_filter p q xs none) any)
]

-- of a list with one more at its end
pub any_pushed : {X : Type 0} (p : X → Bool) (xs : List X) (x : X)
    → list_any p (xs ++ x ∷ []) ≡ (p x || list_any p xs)
any_pushed p xs x = list_any-append p xs (x ∷ []) ∙ turned (list_any p xs) (p x)
  where
    turned : (a b : Bool) → (a || (b || false)) ≡ (b || a)
    turned true true = refl
    turned true false = refl
    turned false true = refl
    turned false false = refl

pub any_push : {X : Type 0} (p : X → Bool) (xs : List X) (x : X) → list_any p (xs ++ x ∷ []) ≡ true
    → (list_any p xs ≡ true) ⊎ (p x ≡ true)
any_push p xs x any = elim (or_cases (p x) (list_any p xs) (sym (any_pushed p xs x) ∙ any)) [
  | inl new ↦ inr new
  | inr old ↦ inl old
]
