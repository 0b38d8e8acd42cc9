-- What holds of lists.
use Rattle.std.proofs.Common.{◌≡◌, ℕ, zero, suc, ◌+◌, ◌*◌, ◌≤◌, Bool, true, false, cond, List, [], ◌∷◌, ◌++◌, take, drop, map, length, get_or, replicate, Option, Some, None, IfNone, IfSome, arith, refl, ap, sym, ◌∙◌, inl, inr}
use Rattle.std.specs.Prelude.{count_by, Result, Ok, Err, OnErr}
use Rattle.std.proofs.lemmas.Bool.{cases_lt, cases_Bool}
use Rattle.std.proofs.lemmas.List.{get_or-replicate, get_or_past, length-replicate, drop_all, take_all, append-nil}
use Rattle.std.proofs.lemmas.List.Folds.{sum_by-replicate}
use Rattle.std.proofs.lemmas.List.Sums.{sum_by-cons}

pub map-replicate : {X Y : Type 0} (f : X → Y) (n : ℕ) (x : X) → map f (replicate n x) ≡ replicate n (f x)
map-replicate f zero x = refl
map-replicate f (suc n) x = ap (λ rest. f x ∷ rest) (map-replicate f n x)

-- empty places
abbrev pub empty_places : (X : Type 0) → ℕ → List (Option X)
empty_places X n = replicate n None

pub empty-place : {X : Type 0} (n i : ℕ) → get_or (empty_places X n) i None ≡ None
empty-place {X} n i =
    elim (cases_lt i n) [
      | inl inside ↦ get_or-replicate n i None None inside
      | inr past ↦ get_or_past (empty_places X n) i None (let len : length (empty_places X n) ≡ n =
          length-replicate n None in rw len past)
    ]

abbrev one : {X : Type 0} → (X → Bool) → X → ℕ
one test x = cond (test x) 1 0

-- no place is counted where none passes
pub count-replicate : {X : Type 0} (test : X → Bool) (n : ℕ) (x : X) → test x ≡ false
    → count_by test (replicate n x) ≡ 0
count-replicate test n x fails =
    let none : one test x ≡ 0 = rw fails refl in
    let sum : count_by test (replicate n x) ≡ n * one test x = sum_by-replicate (one test) n x in
    sum ∙ (rw none (omega arith))

pub count-map : {X Y : Type 0} (test : Y → Bool) (f : X → Y) (xs : List X)
    → count_by test (map f xs) ≡ count_by (λ x. test (f x)) xs
count-map test f [] = refl
count-map test f (x ∷ xs) =
    sum_by-cons (one test) (f x) (map f xs)
    ∙ ap (λ n. one test (f x) + n) (count-map test f xs)
    ∙ sym (sum_by-cons (one (λ y. test (f y))) x xs)

pub count-same : {X : Type 0} (p q : X → Bool) (xs : List X) → ((x : X) → p x ≡ q x) → count_by p xs ≡ count_by q xs
count-same p q [] same = refl
count-same p q (x ∷ xs) same =
    let here : one p x ≡ one q x = rw (same x) refl in
    omega (arith, sum_by-cons (one p) x xs, sum_by-cons (one q) x xs, here, count-same p q xs same)

pub count-below : {X : Type 0} (p q : X → Bool) (xs : List X) → ((x : X) → p x ≡ true → q x ≡ true)
    → count_by p xs ≤ count_by q xs
count-below p q [] within = omega arith
count-below p q (x ∷ xs) within =
    let here : one p x ≤ one q x =
    elim (cases_Bool (p x)) [
      | inl passes ↦ rw (passes, within x passes) (omega arith)
      | inr fails ↦ rw fails
          (omega arith)
    ] in
    omega (arith, sum_by-cons (one p) x xs, sum_by-cons (one q) x xs, here, count-below p q xs within)

-- a list that is written back whole
pub whole-items : (n : ℕ) (old new : List ℕ) → n ≡ length old → length new ≡ length old
    → take n (new ++ drop (length new) old) ≡ new
whole-items n old new is len =
    let rest : drop (length new) old ≡ [] = drop_all (length new) old (omega arith) in
    rw (rest, append-nil new) (take_all n new (omega arith))

-- what follows of a value, if there is one
pub if_none-as : {X : Type 0} (r : Option X) (P Q : Type 0) → IfNone r P → (P → Q) → IfNone r Q
if_none-as None P Q h f = f h
if_none-as (Some x) P Q h f = tt

pub if_some-as : {X : Type 0} (r : Option X) (P Q : X → Type 0) → IfSome r P → ((x : X) → P x → Q x) → IfSome r Q
if_some-as None P Q h f = tt
if_some-as (Some x) P Q h f = f x h

pub none-anyway : {X : Type 0} (r : Option X) (P : Type 0) → P → IfNone r P
none-anyway None P h = h
none-anyway (Some x) P h = tt

pub err-anyway : {X E : Type 0} (r : Result X E) (P : Type 0) → P → OnErr r P
err-anyway (Ok x) P h = tt
err-anyway (Err e) P h = h
