-- Where each element of a list passes one of n tests, and no test is passed twice, it has at most n elements.
use Rattle.std.proofs.Common.{◌≡◌, ℕ, zero, suc, ◌≤◌, List, [], ◌∷◌, length, slice_get, filter, count_by, Bool, true, false, not, Some, refl, arith, subst, inl, inr}
use Rattle.std.specs.List.{list_any}
use Rattle.std.proofs.lemmas.Bool.{cases_Bool, cases_lt, both_ways, not-true}
use Rattle.std.proofs.lemmas.List.Filters.{length-filter_both}
use Rattle.std.proofs.lemmas.List.Sums.{length-filter}
use Rattle.split_types.proofs.Lists.{find_some, filter_there, count_yes, count_no, count_none, count_filter_less}

-- a test that no two places of a list pass is passed once at most
pub count_once : {X : Type 0} (p : X → Bool) (xs : List X)
    → ((i j : ℕ) (x y : X) → slice_get xs i ≡ Some x → slice_get xs j ≡ Some y → p x ≡ true → p y ≡ true → i ≡ j)
    → count_by p xs ≤ 1
count_once p [] apart = omega arith
count_once p (x ∷ xs) apart = elim (cases_Bool (p x)) [
  | inl here ↦ elim (cases_Bool (list_any p xs)) [
    | inl more ↦
        (let first = find_some p xs more
        in absurd (omega (arith, apart 0 (suc first.place) x first.element refl first.there here first.passes)))
    | inr none ↦ omega (arith, count_yes p x xs here, count_none p xs none)
  ]
  | inr past ↦
      omega (
        arith,
        count_no p x xs past,
        count_once p xs (λ i j y z first second one two. (let at = apart (suc i) (suc j) y z first second one two
            in omega (arith, at))),
      )
]

-- what passes one of the tests up to n + 1, and not the last one, passes one up to n
passes_before : {X : Type 0} (test : ℕ → X → Bool) (n : ℕ) (x : X)
    → (p : ℕ) × (1 ≤ p) × (p ≤ suc n) × (test p x ≡ true) → test (suc n) x ≡ false
    → (p : ℕ) × (1 ≤ p) × (p ≤ n) × (test p x ≡ true)
passes_before test n x has fails = elim (cases_lt n has.0) [
  | inl last ↦
      (let is : has.0 ≡ suc n = omega (arith, last, has.2)
      in absurd (both_ways (test (suc n) x) fails (subst (λ p. test p x ≡ true) is has.3)))
  | inr before ↦ (has.0, has.1, before, has.3)
]

-- at most as many elements as tests, where each element passes one of them and each test is passed once at most
pub few_elements : {X : Type 0} (test : ℕ → X → Bool) (n : ℕ) (xs : List X)
    → ((i : ℕ) (x : X) → slice_get xs i ≡ Some x → (p : ℕ) × (1 ≤ p) × (p ≤ n) × (test p x ≡ true))
    → ((p : ℕ) → count_by (test p) xs ≤ 1) → length xs ≤ n
few_elements test zero [] each once = omega arith
few_elements test zero (x ∷ xs) each once =
    let has = each 0 x refl in absurd (omega (arith, has.1, has.2))
few_elements {X = X} test (suc n) xs each once =
    let others : X → Bool = λ x. not (test (suc n) x)
    in let fewer =
    few_elements test n (filter others xs)
    (λ i x at. (let there = filter_there others xs i x at
    in passes_before test n x (each there.0 x there.1) (not-true (test (suc n) x) there.2)))
    (λ p. omega (arith, count_filter_less (test p) others xs, once p))
    in omega (
      arith,
      fewer,
      once (suc n),
      length-filter_both (test (suc n)) others (λ x. refl) xs,
      length-filter (test (suc n)) xs,
    )
