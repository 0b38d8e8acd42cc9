-- Sums and counts over lists of numbers and of the calls of processes.
use Rattle.std.proofs.Common.{◌≡◌, ℕ, zero, suc, ◌+◌, ◌==◌, ◌<◌, ◌≤◌, List, [], ◌∷◌, map, Bool, true, false, ◌||◌, refl, arith, cond, sum_by, count_by, filter, inl, inr}
use Rattle.std.specs.List.{range_with_len, list_any}
use Rattle.std.proofs.lemmas.Bool.{cases_eq, or_cases}
use Rattle.std.proofs.lemmas.Bool.Decides.{nat_tests}
use Rattle.std.proofs.lemmas.List.Sums.{sum_by-cons, sum_by-le-sum_by}
use Rattle.split_types.specs.declared.ids.Pid.{Pid}
use Rattle.split_types.specs.declared.call.Call.{Call}
use Rattle.split_types.specs.Workloads.{is_call_of}

-- the sum of two sums
pub sum_by_both : {X : Type 0} (f g : X → ℕ) (xs : List X) → sum_by (λ x. f x + g x) xs ≡ sum_by f xs + sum_by g xs
sum_by_both f g [] = refl
sum_by_both f g (x ∷ xs) =
    omega (arith, sum_by_both f g xs, sum_by-cons (λ y. f y + g y) x xs, sum_by-cons f x xs, sum_by-cons g x xs)

-- the sum of zeros
pub sum_by_none : {X : Type 0} (f : X → ℕ) (xs : List X) → ((x : X) → f x ≡ 0) → sum_by f xs ≡ 0
sum_by_none f [] none = refl
sum_by_none f (x ∷ xs) none = omega (arith, sum_by-cons f x xs, none x, sum_by_none f xs none)

-- q is the only number of a range that counts, and it isn't in the range
pub range_lacks : (n q lo m : ℕ) → q < lo → sum_by (λ p. cond (q == p) n 0) (range_with_len lo m) ≡ 0
range_lacks n q lo zero below = refl
range_lacks n q lo (suc m) below =
    let more = sum_by-cons (λ p. cond (q == p) n 0) lo (range_with_len (lo + 1) m)
    in let rest = range_lacks n q (lo + 1) m (omega arith)
    in grind (arith, nat_tests)

-- q is the only number of a range that counts: it stands there once at most
pub range_once : (n q lo m : ℕ) → sum_by (λ p. cond (q == p) n 0) (range_with_len lo m) ≤ n
range_once n q lo zero = omega arith
range_once n q lo (suc m) =
    let more = sum_by-cons (λ p. cond (q == p) n 0) lo (range_with_len (lo + 1) m)
    in elim (cases_eq q lo) [
      | inl same ↦ (let rest = range_lacks n q (lo + 1) m (omega arith) in grind (arith, nat_tests))
      | inr other ↦ (let rest = range_once n q (lo + 1) m in grind (arith, nat_tests))
    ]

-- the sum is larger where no term is smaller, and the one at q is larger
pub sum_by_raised : (f g : ℕ → ℕ) (q lo m : ℕ) → ((p : ℕ) → f p ≤ g p) → f q + 1 ≤ g q → lo ≤ q → q < lo + m
    → sum_by f (range_with_len lo m) + 1 ≤ sum_by g (range_with_len lo m)
sum_by_raised f g q lo zero each more least most = omega arith
sum_by_raised f g q lo (suc m) each more least most =
    let first = sum_by-cons f lo (range_with_len (lo + 1) m)
    in let second = sum_by-cons g lo (range_with_len (lo + 1) m)
    in elim (cases_eq q lo) [
      | inl same ↦ (let rest = sum_by-le-sum_by f g (range_with_len (lo + 1) m) each in grind arith)
      | inr other ↦
          (let rest = sum_by_raised f g q (lo + 1) m each more (omega arith) (omega arith)
          in omega (arith, each lo))
    ]

-- a count of what passes one of two tests
pub count_by_either : {X : Type 0} (r p q : X → Bool) (xs : List X) → ((x : X) → r x ≡ true → (p x || q x) ≡ true)
    → count_by r xs ≤ count_by p xs + count_by q xs
count_by_either r p q xs either =
    omega (
      arith,
      sum_by_both (λ x. cond (p x) 1 0) (λ x. cond (q x) 1 0) xs,
      sum_by-le-sum_by (λ x. cond (r x) 1 0) (λ x. cond (p x) 1 0 + cond (q x) 1 0) xs
          (λ x. each (r x) (p x) (q x) (either x)),
    )
  where
    each : (a b c : Bool) → (a ≡ true → (b || c) ≡ true) → cond a 1 0 ≤ cond b 1 0 + cond c 1 0
    each false b c is = omega arith
    each true true c is = omega arith
    each true false true is = omega arith
    each true false false is = absurd (let h = is refl in cc)

-- a count of what passes a stronger test
pub count_by_less : {X : Type 0} (r p : X → Bool) (xs : List X) → ((x : X) → r x ≡ true → p x ≡ true)
    → count_by r xs ≤ count_by p xs
count_by_less r p xs stronger =
    sum_by-le-sum_by (λ x. cond (r x) 1 0) (λ x. cond (p x) 1 0) xs (λ x. each (r x) (p x) (stronger x))
  where
    each : (a b : Bool) → (a ≡ true → b ≡ true) → cond a 1 0 ≤ cond b 1 0
    each false b is = omega arith
    each true true is = omega arith
    each true false is = absurd (let h = is refl in cc)

-- a count of what passes both of two tests is smaller than that of one, where an element passes this one alone
pub count_by_fewer : {X : Type 0} (r p q : X → Bool) (xs : List X) → ((x : X) → r x ≡ true → p x ≡ true)
    → ((x : X) → q x ≡ true → (p x ≡ true) × (r x ≡ false)) → list_any q xs ≡ true
    → count_by r xs + 1 ≤ count_by p xs
count_by_fewer r p q [] both out any = absurd (cc)
count_by_fewer r p q (x ∷ xs) both out any =
    let first = sum_by-cons (λ y. cond (r y) 1 0) x xs
    in let second = sum_by-cons (λ y. cond (p y) 1 0) x xs
    in elim (or_cases (q x) (list_any q xs) any) [
      | inl here ↦
          (let rest = count_by_less r p xs both
          in let this = out x here in grind arith)
      | inr later ↦ omega (arith, count_by_fewer r p q xs both out later, each (r x) (p x) (both x))
    ]
  where
    each : (a b : Bool) → (a ≡ true → b ≡ true) → cond a 1 0 ≤ cond b 1 0
    each false b is = omega arith
    each true true is = omega arith
    each true false is = absurd (let h = is refl in cc)

-- a sum over the calls of process p
abbrev pub sum_of : (Call → ℕ) → List (Pid × Call) → ℕ → ℕ
sum_of f cs p = sum_by f (map (λ c. c.1) (filter (is_call_of p) cs))

sum_of_more : (f : Call → ℕ) (c : Pid × Call) (cs : List (Pid × Call)) (p : ℕ)
    → sum_of f (c ∷ cs) p ≡ cond (c.0.0 == p) (f c.1) 0 + sum_of f cs p
sum_of_more f c cs p = elim (c.0.0 == p) as (λ b. sum_by f
    (map (λ d. d.1) (cond b (c ∷ filter (is_call_of p) cs) (filter (is_call_of p) cs)))
    ≡ cond b (f c.1) 0 + sum_of f cs p) [
      | true ↦ sum_by-cons f c.1 (map (λ d. d.1) (filter (is_call_of p) cs))
      | false ↦ omega arith
    ]

-- the sums over the calls of each process are at most the sum over all calls
pub sum_of_each : (f : Call → ℕ) (cs : List (Pid × Call)) (lo m : ℕ)
    → sum_by (sum_of f cs) (range_with_len lo m) ≤ sum_by (λ c. f c.1) cs
sum_of_each f [] lo m = none lo m
  where
    none : (lo m : ℕ) → sum_by (λ p. 0) (range_with_len lo m) ≤ 0
    none lo zero = omega arith
    none lo (suc m) = omega (arith, none (lo + 1) m, sum_by-cons (λ p. 0) lo (range_with_len (lo + 1) m))
sum_of_each f (c ∷ cs) lo m =
    omega (
      arith,
      sum_of_each f cs lo m,
      range_once (f c.1) c.0.0 lo m,
      sum_by-cons (λ d. f d.1) c cs,
      sum_by_both (λ p. cond (c.0.0 == p) (f c.1) 0) (sum_of f cs) (range_with_len lo m),
      sum_by-le-sum_by (sum_of f (c ∷ cs)) (λ p. cond (c.0.0 == p) (f c.1) 0 + sum_of f cs p) (range_with_len lo m)
          (λ p. omega (arith, sum_of_more f c cs p)),
    )
