-- How many elements of a list pass a test: against another test or two others, of numbers within bounds, and of pages
-- that all pass it, or none.
use Rattle.std.proofs.Common.{◌≡◌, ℕ, zero, suc, ◌+◌, ◌-◌, ◌≤◌, List, [], ◌∷◌, length, count_by, nat_lt, nat_le, Bool, true, false, ◌&&◌, refl, arith, inl, inr, cond}
use Rattle.std.specs.List.{list_any, range_with_len}
use Rattle.std.proofs.lemmas.Bool.{cases_Bool, cases_lt, or_left, or_right}
use Rattle.std.proofs.lemmas.Bool.Decides.{nat_tests}
use Rattle.std.proofs.lemmas.List.Sums.{sum_by-cons}
use Rattle.split_types.specs.declared.buf.Buf.{Buf}
use Rattle.split_types.specs.Hooks.{same_buf}
use Rattle.split_types.proofs.Lists.{count_yes, count_no}
use Rattle.split_types.proofs.HeldLaws.{same_buf-self}
use Rattle.split_types.proofs.CacheCounts.{StandsIn}

-- ---- one test and others
-- where each element that passes the second test passes the first one
pub count_fewer : {X : Type 0} (p q : X → Bool) (xs : List X) → ((x : X) → q x ≡ true → p x ≡ true)
    → count_by q xs ≤ count_by p xs
count_fewer p q [] weaker = omega arith
count_fewer p q (x ∷ xs) weaker = elim (cases_Bool (q x)) [
  | inl passes ↦
      omega (arith, count_yes q x xs passes, count_yes p x xs (weaker x passes), count_fewer p q xs weaker)
  | inr fails ↦
      omega (
        arith,
        count_no q x xs fails,
        sum_by-cons (λ y. cond (p y) 1 0) x xs,
        count_fewer p q xs weaker,
      )
]

-- where each element passes the first test as often as the two others
pub count_both : {X : Type 0} (p q r : X → Bool) (xs : List X)
    → ((x : X) → ◌≡◌ {A = ℕ} (cond (p x) 1 0) (cond (q x) 1 0 + cond (r x) 1 0))
    → count_by p xs ≡ count_by q xs + count_by r xs
count_both p q r [] split = refl
count_both p q r (x ∷ xs) split =
    omega (
      arith,
      split x,
      sum_by-cons (λ y. cond (p y) 1 0) x xs,
      sum_by-cons (λ y. cond (q y) 1 0) x xs,
      sum_by-cons (λ y. cond (r y) 1 0) x xs,
      count_both p q r xs split,
    )

-- ---- numbers
-- the number is one of those from the first bound on, below the second
abbrev pub is_within : ℕ → ℕ → ℕ → Bool
is_within least most x = nat_le least x && nat_lt x most

-- how many numbers of a range are within such bounds, where it ends behind them
pub count_within : (least most first n : ℕ) → least ≤ most → most ≤ first + n
    → count_by (is_within least most) (range_with_len first n) ≡ (most - least) - (first - least)
count_within least most first zero rising ends = omega (arith, rising, ends)
count_within least most first (suc n) rising ends =
    by_bounds (count_within least most (first + 1) n rising (omega (arith, ends)))
  where
    rest : List ℕ
    rest = range_with_len (first + 1) n

    no : is_within least most first ≡ false
        → count_by (is_within least most) (first ∷ rest) ≡ count_by (is_within least most) rest
    no out = count_no (is_within least most) first rest out

    yes : is_within least most first ≡ true
        → count_by (is_within least most) (first ∷ rest) ≡ count_by (is_within least most) rest + 1
    yes here = count_yes (is_within least most) first rest here

    by_bounds : count_by (is_within least most) rest ≡ (most - least) - (first + 1 - least)
        → count_by (is_within least most) (first ∷ rest) ≡ (most - least) - (first - least)
    by_bounds later = elim (cases_lt first least) [
      | inl before ↦ omega (arith, before, no (grind (arith, nat_tests)), later, rising, ends)
      | inr from ↦ elim (cases_lt first most) [
        | inl below ↦ omega (arith, from, below, yes (grind (arith, nat_tests)), later, rising, ends)
        | inr past ↦ omega (arith, from, past, no (grind (arith, nat_tests)), later, rising, ends)
      ]
    ]

-- ---- pages
-- all pages of a list pass
pub count_all : (p : Buf → Bool) (bufs : List Buf) → ((b : Buf) → StandsIn b bufs → p b ≡ true)
    → count_by p bufs ≡ length bufs
count_all p [] pass = refl
count_all p (c ∷ bufs) pass =
    omega (
      arith,
      count_yes p c bufs (pass c (or_left (same_buf c c) (list_any (same_buf c) bufs) (same_buf-self c))),
      count_all p bufs (λ b later. pass b (or_right (same_buf b c) (list_any (same_buf b) bufs) later)),
    )

-- none passes
pub count_nothing : (p : Buf → Bool) (bufs : List Buf) → ((b : Buf) → StandsIn b bufs → p b ≡ false)
    → count_by p bufs ≡ 0
count_nothing p [] fail = refl
count_nothing p (c ∷ bufs) fail =
    omega (
      arith,
      count_no p c bufs (fail c (or_left (same_buf c c) (list_any (same_buf c) bufs) (same_buf-self c))),
      count_nothing p bufs (λ b later. fail b (or_right (same_buf b c) (list_any (same_buf b) bufs) later)),
    )

-- one page, or none
pub count_most : (p : Buf → Bool) (c : Buf) → count_by p (c ∷ []) ≤ 1
count_most p c = elim (cases_Bool (p c)) [
  | inl passes ↦ omega (arith, count_yes p c [] passes)
  | inr fails ↦ omega (arith, count_no p c [] fails)
]
