-- Bills, process by process.
use Rattle.std.proofs.Common.{◌≡◌, ℕ, ◌+◌, ◌-◌, ◌<◌, ◌≤◌, List, [], ◌∷◌, length, filter, Bool, true, false, ◌||◌, ◌==◌}
use Rattle.std.proofs.Common.{cond, slice_index, refl, ap, ◌∙◌, subst, arith, if◌then◌else◌, sum_by, inl, inr}
use Rattle.std.specs.Prelude.{slice_set}
use Rattle.std.specs.List.{range_with_len}
use Rattle.std.proofs.lemmas.Bool.{cases_eq}
use Rattle.std.proofs.lemmas.Bool.Decides.{nat_tests}
use Rattle.std.proofs.lemmas.List.{get_or-set_same, get_or-set_other}
use Rattle.std.proofs.lemmas.List.Sums.{sum_by-cons}
use Rattle.split_types.specs.Sets.{pids, has, IsSet}
use Rattle.split_types.specs.Share.{share_of}
use Rattle.split_types.proofs.Shared.{range_once}

-- how often p stands in a list
unfoldable pub times : List ℕ → ℕ → ℕ
times xs p = sum_by (λ q. cond (p == q) 1 0) xs

times-cons : (q : ℕ) (xs : List ℕ) (p : ℕ) → times (q ∷ xs) p ≡ cond (p == q) 1 0 + times xs p
unfolding times
times-cons q xs p = sum_by-cons (λ q. cond (p == q) 1 0) q xs

times_filter : (f : ℕ → Bool) (xs : List ℕ) (p : ℕ) → times (filter f xs) p ≤ times xs p
times_filter f [] p = omega arith
times_filter f (x ∷ xs) p = by_test (f x) (times_filter f xs p)
  where
    by_test : (b : Bool) → times (filter f xs) p ≤ times xs p
        → times (cond b (x ∷ filter f xs) (filter f xs)) p ≤ times (x ∷ xs) p
    by_test true rest = omega (arith, rest, times-cons x (filter f xs) p, times-cons x xs p)
    by_test false rest = omega (arith, rest, times-cons x xs p)

times_none : (xs : List ℕ) (p : ℕ) → times xs p ≡ 0 → has xs p ≡ false
times_none [] p none = refl
times_none (x ∷ xs) p none =
    let more = times-cons x xs p in
    let rest = times_none xs p (omega (arith, none, more)) in
    grind (arith, nat_tests)

-- what is left of a set: some of it, each once
pub record IsLeftOf (set left : List ℕ) : Type 0 where
  pub among : (p : ℕ) → has left p ≡ true → has set p ≡ true
  pub once : (p : ℕ) → times left p ≤ 1

pub whole_left : (set : List ℕ) → IsSet set → IsLeftOf set set
unfolding pids times
whole_left set is = record {
  among = λ p is. is;
  once = λ p. subst (λ xs. times xs p ≤ 1) is
      (omega (arith, times_filter (has set) (range_with_len 1 256) p, range_once 1 p 1 256));
}

pub rest_left : (set : List ℕ) (q : ℕ) (rest : List ℕ) → IsLeftOf set (q ∷ rest) → IsLeftOf set rest
rest_left set q rest left = record {
  among = λ p is. left.among p (grind (arith, nat_tests));
  once = λ p. omega (arith, left.once p, times-cons q rest p);
}

-- the first of what is left stands in the set, and not again in what is left
pub first_in : (set : List ℕ) (q : ℕ) (rest : List ℕ) → IsLeftOf set (q ∷ rest) → has set q ≡ true
first_in set q rest left = left.among q (grind (arith, nat_tests))

first_once : (set : List ℕ) (q : ℕ) (rest : List ℕ) → IsLeftOf set (q ∷ rest) → has rest q ≡ false
first_once set q rest left =
    let same : (q == q) ≡ true = grind (arith, nat_tests) in
    let more : times (q ∷ rest) q ≡ 1 + times rest q = times-cons q rest q ∙ ap (λ b. cond b 1 0 + times rest q) same in
    times_none rest q (omega (arith, left.once q, more))

-- the bills to come of those that are left
abbrev pub to_come : ℕ → List ℕ → List ℕ → ℕ → ℕ
to_come cost set left p = if has left p then share_of cost set p else 0

pub come_all : (cost : ℕ) (set : List ℕ) (p : ℕ) → to_come cost set set p ≡ share_of cost set p
come_all cost set p = by_test (has set p) refl
  where
    by_test : (b : Bool) → has set p ≡ b → (if b then share_of cost set p else 0) ≡ share_of cost set p
    by_test true is = refl
    by_test false is = rw is refl

pub come_first : (cost : ℕ) (set : List ℕ) (q : ℕ) (rest : List ℕ) → IsLeftOf set (q ∷ rest)
    → (to_come cost set (q ∷ rest) q ≡ share_of cost set q) × (to_come cost set rest q ≡ 0)
come_first cost set q rest left =
    let here : has (q ∷ rest) q ≡ true = grind (arith, nat_tests) in
    let gone = first_once set q rest left in
    (ap (λ b. if b then share_of cost set q else 0) here, ap (λ b. if b then share_of cost set q else 0) gone)

pub come_other : (cost : ℕ) (set : List ℕ) (q : ℕ) (rest : List ℕ) (p : ℕ) → (q ≡ p → ⊥)
    → to_come cost set (q ∷ rest) p ≡ to_come cost set rest p
come_other cost set q rest p other =
    let test : (q == p) ≡ false = grind (arith, nat_tests, other) in
    ap (λ b. if b || has rest p then share_of cost set p else 0) test

-- one process more is billed
pub billed_first : (cost : ℕ) (set : List ℕ) (q : ℕ) (rest bills due : List ℕ) → IsLeftOf set (q ∷ rest) → 1 ≤ q
    → q ≤ length bills
    → ((i : ℕ) → i < length bills → slice_index bills i + to_come cost set (q ∷ rest) (i + 1)
    ≡ slice_index due i + share_of cost set (i + 1))
    → (i : ℕ) → i < length bills
    → slice_index (slice_set bills (q - 1) (slice_index bills (q - 1) + share_of cost set q)) i + to_come cost set rest
    (i + 1) ≡ slice_index due i + share_of cost set (i + 1)
billed_first cost set q rest bills due left least most before i within = elim (cases_eq i (q - 1)) [
  | inl here ↦
      let read : slice_index (slice_set bills (q - 1) (slice_index bills (q - 1) + share_of cost set q)) i
      ≡ slice_index bills (q - 1) + share_of cost set q =
      ap (slice_index (slice_set bills (q - 1) (slice_index bills (q - 1) + share_of cost set q))) here
      ∙ get_or-set_same bills (q - 1) (slice_index bills (q - 1) + share_of cost set q) 0 (omega arith) in
      let number : i + 1 ≡ q = omega arith in
      let was = before i within in
      let same : slice_index bills i ≡ slice_index bills (q - 1) = ap (slice_index bills) here in
      let all = (come_first cost set q rest left).0 in
      let none = (come_first cost set q rest left).1 in
      rw (read, number, none) (omega (
        arith,
        same,
        subst (λ n. slice_index bills i + to_come cost set (q ∷ rest) n
            ≡ slice_index due i + share_of cost set n) number was,
        all,
      ))
  | inr other ↦
      let read : slice_index (slice_set bills (q - 1) (slice_index bills (q - 1) + share_of cost set q)) i
      ≡ slice_index bills i =
      get_or-set_other bills (q - 1) i (slice_index bills (q - 1) + share_of cost set q) 0 other in
      let same = come_other cost set q rest (i + 1) (λ e. other (omega arith)) in
      omega (arith, read, before i within, same)
]
