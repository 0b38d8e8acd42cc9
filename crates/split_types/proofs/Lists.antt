-- Laws of lists: places in lists that are joined, cut or filtered, what a search finds, and how many pass a test.
use Rattle.std.proofs.Common.{◌≡◌, ℕ, zero, suc, ◌+◌, ◌<◌, ◌≤◌, List, [], ◌∷◌, ◌++◌, length, map, slice_get, take, filter, find, Bool, true, false, not, ◌&&◌, ◌||◌, Some, None, refl, arith, subst, sym, inl, inr, cond, count_by, nat_lt, ◌⊎◌, ◌∙◌, ap}
use Rattle.std.specs.Prelude.{All, remove}
use Rattle.std.specs.List.{list_any}
use Rattle.std.proofs.lemmas.Bool.{cases_Bool, or_cases, or_parts, or_from, or_left, or_right, cond-true, cond-false, both_ways, not_from_true, not_from_false, cases_lt, lt-ltb, le-ltb, true_from_ne_false}
use Rattle.std.proofs.lemmas.List.Folds.{list_any-append}
use Rattle.std.proofs.lemmas.List.Sums.{sum_by-cons, sum_by_push}
use Rattle.std.proofs.lemmas.Option.{same_Some, slice_get_within, get_or_from_slice_get}

-- ---- places
pub slice_get-append_left : {X : Type 0} (xs ys : List X) (i : ℕ) → i < length xs
    → slice_get (xs ++ ys) i ≡ slice_get xs i
slice_get-append_left [] ys i h = absurd (omega arith)
slice_get-append_left (x ∷ xs) ys zero h = refl
slice_get-append_left (x ∷ xs) ys (suc i) h = slice_get-append_left xs ys i (omega arith)

pub slice_get-append_right : {X : Type 0} (xs ys : List X) (i j : ℕ) → i ≡ length xs + j
    → slice_get (xs ++ ys) i ≡ slice_get ys j
slice_get-append_right [] ys i j h = ap (slice_get ys) (omega arith)
slice_get-append_right (x ∷ xs) ys zero j h = absurd (omega arith)
slice_get-append_right (x ∷ xs) ys (suc i) j h = slice_get-append_right xs ys i j (omega arith)

-- one more element at the end
pub slice_get-push : {X : Type 0} (xs : List X) (y : X) (i : ℕ) (x : X) → slice_get (xs ++ y ∷ []) i ≡ Some x
    → (slice_get xs i ≡ Some x) ⊎ ((i ≡ length xs) × (y ≡ x))
slice_get-push [] y zero x at = inr (refl, cc)
slice_get-push [] y (suc i) x at = absurd (cc)
slice_get-push (z ∷ zs) y zero x at = inl at
slice_get-push (z ∷ zs) y (suc i) x at =
    elim (slice_get-push zs y i x at) [ inl before ↦ inl before | inr last ↦ inr (omega (arith, last.0), last.1) ]

pub slice_get-push_old : {X : Type 0} (xs : List X) (y : X) (i : ℕ) (x : X) → slice_get xs i ≡ Some x
    → slice_get (xs ++ y ∷ []) i ≡ Some x
slice_get-push_old xs y i x at = slice_get-append_left xs (y ∷ []) i (slice_get_within xs i x at) ∙ at

pub slice_get-push_new : {X : Type 0} (xs : List X) (y : X) → slice_get (xs ++ y ∷ []) (length xs) ≡ Some y
slice_get-push_new xs y = slice_get-append_right xs (y ∷ []) (length xs) 0 (omega arith)

-- an element at each place within
pub some_at : {X : Type 0} (xs : List X) (i : ℕ) → i < length xs → (x : X) × (slice_get xs i ≡ Some x)
some_at [] i below = absurd (omega arith)
some_at (x ∷ xs) zero below = (x, refl)
some_at (x ∷ xs) (suc i) below = some_at xs i (omega arith)

-- what holds of each element holds of the one at a place
pub all_at : {X : Type 0} (P : X → Type 0) (xs : List X) (i : ℕ) (x : X) → All P xs → slice_get xs i ≡ Some x → P x
all_at P xs i x all at = subst P (get_or_from_slice_get xs i x x at) (all i x (slice_get_within xs i x at))

pub take_at_some : {X : Type 0} (xs : List X) (n : ℕ) (x : X) → slice_get xs n ≡ Some x
    → take (n + 1) xs ≡ take n xs ++ x ∷ []
take_at_some [] n x at = absurd (cc)
take_at_some (y ∷ ys) zero x at = cc
take_at_some (y ∷ ys) (suc n) x at = ap (λ m. take m (y ∷ ys)) next ∙ ap (λ l. y ∷ l) (take_at_some ys n x at)
  where
    next : suc n + 1 ≡ suc (n + 1)
    next = omega arith

-- ---- searches
pub list_any_here : {X : Type 0} (p : X → Bool) (xs : List X) (i : ℕ) (x : X) → slice_get xs i ≡ Some x → p x ≡ true
    → list_any p xs ≡ true
list_any_here p [] i x at passes = absurd (cc)
list_any_here p (y ∷ ys) zero x at passes =
    or_left (p y) (list_any p ys) (subst (λ z. p z ≡ true) (sym (same_Some y x at)) passes)
list_any_here p (y ∷ ys) (suc i) x at passes = or_right (p y) (list_any p ys) (list_any_here p ys i x at passes)

-- the first element that passes, and its place
pub record Found {X : Type 0} (p : X → Bool) (xs : List X) : Type 0 where
  pub element : X
  pub place : ℕ
  pub found : find p xs ≡ Some element
  pub there : slice_get xs place ≡ Some element
  pub passes : p element ≡ true

pub find_some : {X : Type 0} (p : X → Bool) (xs : List X) → list_any p xs ≡ true → Found p xs
find_some p [] any = absurd (cc)
find_some p (x ∷ xs) any = elim (cases_Bool (p x)) [
  | inl here ↦ record {
    element = x;
    place = 0;
    found = cond-true (p x) (Some x) (find p xs) here;
    there = refl;
    passes = here;
  }
  | inr past ↦ (let later = find_some p xs (rest (p x) (list_any p xs) past any)
      in record {
        element = later.element;
        place = suc later.place;
        found = cond-false (p x) (Some x) (find p xs) past ∙ later.found;
        there = later.there;
        passes = later.passes;
      })
]
  where
    rest : (a b : Bool) → a ≡ false → (a || b) ≡ true → b ≡ true
    rest true b e f = absurd (cc)
    rest false b e f = f

pub find_none : {X : Type 0} (p : X → Bool) (xs : List X) → list_any p xs ≡ false → find p xs ≡ None
find_none p [] none = refl
find_none p (x ∷ xs) none =
    let parts = or_parts (p x) (list_any p xs) none
    in cond-false (p x) (Some x) (find p xs) parts.0 ∙ find_none p xs parts.1

-- what a search finds stands in the list and passes
pub find_there : {X : Type 0} (p : X → Bool) (xs : List X) (x : X) → find p xs ≡ Some x
    → (i : ℕ) × (slice_get xs i ≡ Some x) × (p x ≡ true)
find_there p xs x found = elim (cases_Bool (list_any p xs)) [
  | inl any ↦ (let first = find_some p xs any
      in let same : first.element ≡ x = same_Some first.element x (sym first.found ∙ found)
      in (first.place, first.there ∙ ap Some same, subst (λ y. p y ≡ true) same first.passes))
  | inr none ↦ (let nothing = find_none p xs none in absurd (cc))
]

-- none passes the one test where none passes a weaker one
pub any_weaker : {X : Type 0} (p q : X → Bool) (xs : List X) → ((x : X) → p x ≡ true → q x ≡ true)
    → list_any q xs ≡ false → list_any p xs ≡ false
any_weaker p q [] weaker none = refl
any_weaker p q (x ∷ xs) weaker none =
    let parts = or_parts (q x) (list_any q xs) none
    in or_from (p x) (list_any p xs) (each (p x) (q x) (weaker x) parts.0) (any_weaker p q xs weaker parts.1)
  where
    each : (a b : Bool) → (a ≡ true → b ≡ true) → b ≡ false → a ≡ false
    each true b is none = absurd (let e = is refl in cc)
    each false b is none = refl

-- where none passes, none of what a filter keeps does
pub none_in_filter : {X : Type 0} (p q : X → Bool) (xs : List X) → list_any p xs ≡ false
    → list_any p (filter q xs) ≡ false
none_in_filter p q [] none = refl
none_in_filter p q (x ∷ xs) none =
    let parts : (p x ≡ false) × (list_any p xs ≡ false) = or_parts (p x) (list_any p xs) none in
    by_test (q x) parts.0 (none_in_filter p q xs parts.1)
  where
    by_test : (b : Bool) → p x ≡ false → list_any p (filter q xs) ≡ false
        → list_any p (cond b (x ∷ filter q xs) (filter q xs)) ≡ false
    by_test true fails rest = rw fails rest
    by_test false fails rest = rest

-- ---- counts
pub count_yes : {X : Type 0} (p : X → Bool) (x : X) (xs : List X) → p x ≡ true → count_by p (x ∷ xs) ≡ count_by p xs + 1
count_yes p x xs passes =
    let one : ◌≡◌ {A = ℕ} (cond (p x) 1 0) 1 = rw passes refl
    in omega (arith, sum_by-cons (λ y. cond (p y) 1 0) x xs, one)

pub count_no : {X : Type 0} (p : X → Bool) (x : X) (xs : List X) → p x ≡ false → count_by p (x ∷ xs) ≡ count_by p xs
count_no p x xs fails =
    let none : ◌≡◌ {A = ℕ} (cond (p x) 1 0) 0 = rw fails refl
    in omega (arith, sum_by-cons (λ y. cond (p y) 1 0) x xs, none)

pub count_push : {X : Type 0} (p : X → Bool) (xs : List X) (x : X)
    → count_by p (xs ++ x ∷ []) ≡ count_by p xs + cond (p x) 1 0
count_push p xs x = sum_by_push (λ y. cond (p y) 1 0) xs x

filter_yes : {X : Type 0} (p : X → Bool) (x : X) (xs : List X) → p x ≡ true → filter p (x ∷ xs) ≡ x ∷ filter p xs
filter_yes p x xs passes = cond-true (p x) (x ∷ filter p xs) (filter p xs) passes

filter_no : {X : Type 0} (p : X → Bool) (x : X) (xs : List X) → p x ≡ false → filter p (x ∷ xs) ≡ filter p xs
filter_no p x xs fails = cond-false (p x) (x ∷ filter p xs) (filter p xs) fails

-- none passes exactly where the count is 0
pub count_none : {X : Type 0} (p : X → Bool) (xs : List X) → list_any p xs ≡ false → count_by p xs ≡ 0
count_none p [] none = refl
count_none p (x ∷ xs) none =
    let parts = or_parts (p x) (list_any p xs) none
    in omega (arith, count_no p x xs parts.0, count_none p xs parts.1)

pub none_counted : {X : Type 0} (p : X → Bool) (xs : List X) → count_by p xs ≡ 0 → list_any p xs ≡ false
none_counted p [] count = refl
none_counted p (x ∷ xs) count = elim (cases_Bool (p x)) [
  | inl here ↦ absurd (omega (arith, count_yes p x xs here))
  | inr past ↦ or_from (p x) (list_any p xs) past (none_counted p xs (omega (arith, count_no p x xs past)))
]

pub any_counted : {X : Type 0} (p : X → Bool) (xs : List X) → list_any p xs ≡ nat_lt 0 (count_by p xs)
any_counted p xs = elim (cases_lt 0 (count_by p xs)) [
  | inl some ↦
      true_from_ne_false (list_any p xs) (λ none. omega (arith, count_none p xs none))
      ∙ sym (lt-ltb 0 (count_by p xs) some)
  | inr none ↦ none_counted p xs (omega arith) ∙ sym (le-ltb 0 (count_by p xs) none)
]

-- one that passes is counted
pub counted_here : {X : Type 0} (p : X → Bool) (xs : List X) (i : ℕ) (x : X) → slice_get xs i ≡ Some x → p x ≡ true
    → 1 ≤ count_by p xs
counted_here p [] i x at passes = absurd (cc)
counted_here p (y ∷ ys) zero x at passes =
    omega (arith, count_yes p y ys (subst (λ z. p z ≡ true) (sym (same_Some y x at)) passes))
counted_here p (y ∷ ys) (suc i) x at passes = elim (cases_Bool (p y)) [
  | inl here ↦ omega (arith, count_yes p y ys here)
  | inr past ↦ omega (arith, count_no p y ys past, counted_here p ys i x at passes)
]

-- a count over what a filter keeps: the same where it keeps all that pass, none where it keeps none of them
pub count_filter : {X : Type 0} (p q : X → Bool) (xs : List X) → ((x : X) → p x ≡ true → q x ≡ true)
    → count_by p (filter q xs) ≡ count_by p xs
count_filter p q [] keeps = refl
count_filter p q (x ∷ xs) keeps = elim (cases_Bool (q x)) [
  | inl kept ↦
      ap (count_by p) (filter_yes q x xs kept)
      ∙ elim (cases_Bool (p x)) [
        | inl here ↦ omega (arith, count_yes p x (filter q xs) here, count_yes p x xs here, count_filter p q xs keeps)
        | inr past ↦ omega (arith, count_no p x (filter q xs) past, count_no p x xs past, count_filter p q xs keeps)
      ]
  | inr out ↦ elim (cases_Bool (p x)) [
    | inl here ↦ absurd (both_ways (q x) out (keeps x here))
    | inr past ↦ ap (count_by p) (filter_no q x xs out) ∙ omega (arith, count_no p x xs past, count_filter p q xs keeps)
  ]
]

pub count_filter_out : {X : Type 0} (p q : X → Bool) (xs : List X) → ((x : X) → p x ≡ true → q x ≡ false)
    → count_by p (filter q xs) ≡ 0
count_filter_out p q [] out = refl
count_filter_out p q (x ∷ xs) out = elim (cases_Bool (q x)) [
  | inr none ↦ ap (count_by p) (filter_no q x xs none) ∙ count_filter_out p q xs out
  | inl kept ↦ elim (cases_Bool (p x)) [
    | inl here ↦ absurd (both_ways (q x) (out x here) kept)
    | inr past ↦
        ap (count_by p) (filter_yes q x xs kept)
        ∙ omega (arith, count_no p x (filter q xs) past, count_filter_out p q xs out)
  ]
]

pub count_filter_less : {X : Type 0} (p q : X → Bool) (xs : List X) → count_by p (filter q xs) ≤ count_by p xs
count_filter_less p q [] = omega arith
count_filter_less p q (x ∷ xs) = elim (cases_Bool (q x)) [
  | inl kept ↦ subst (λ l. count_by p l ≤ count_by p (x ∷ xs)) (sym (filter_yes q x xs kept)) (elim (cases_Bool (p x)) [
    | inl here ↦ omega (arith, count_yes p x (filter q xs) here, count_yes p x xs here, count_filter_less p q xs)
    | inr past ↦ omega (arith, count_no p x (filter q xs) past, count_no p x xs past, count_filter_less p q xs)
  ])
  | inr out ↦ subst (λ l. count_by p l ≤ count_by p (x ∷ xs)) (sym (filter_no q x xs out)) (elim (cases_Bool (p x)) [
    | inl here ↦ omega (arith, count_yes p x xs here, count_filter_less p q xs)
    | inr past ↦ omega (arith, count_no p x xs past, count_filter_less p q xs)
  ])
]

-- where none passes, the test keeps none and the opposite test keeps all
pub filter_none : {X : Type 0} (p : X → Bool) (xs : List X) → count_by p xs ≡ 0
    → (filter p xs ≡ []) × (filter (λ x. not (p x)) xs ≡ xs)
filter_none p [] count = (refl, refl)
filter_none p (x ∷ xs) count = elim (cases_Bool (p x)) [
  | inl here ↦ absurd (omega (arith, count_yes p x xs here))
  | inr past ↦
      (let rest = filter_none p xs (omega (arith, count_no p x xs past))
      in (
        filter_no p x xs past ∙ rest.0,
        filter_yes (λ y. not (p y)) x xs (not_from_false (p x) past)
            ∙ ap (λ l. x ∷ l) rest.1,
      ))
]

-- where one alone passes, the test keeps it, and the opposite test keeps the list without it
pub filter_one : {X : Type 0} (p : X → Bool) (xs : List X) (i : ℕ) (x : X) → slice_get xs i ≡ Some x → p x ≡ true
    → count_by p xs ≤ 1
    → (filter p xs ≡ x ∷ []) × (filter (λ y. not (p y)) xs ≡ remove xs i)
filter_one p [] i x at passes once = absurd (cc)
filter_one p (y ∷ ys) zero x at passes once =
    let here : y ≡ x = same_Some y x at
    in let first : p y ≡ true = subst (λ z. p z ≡ true) (sym here) passes
    in let rest = filter_none p ys (omega (arith, count_yes p y ys first))
    in (
      filter_yes p y ys first ∙ ap (λ l. y ∷ l) rest.0 ∙ ap (λ z. z ∷ []) here,
      filter_no (λ z. not (p z)) y ys (not_from_true (p y) first) ∙ rest.1,
    )
filter_one p (y ∷ ys) (suc i) x at passes once = elim (cases_Bool (p y)) [
  | inl here ↦ absurd (omega (arith, count_yes p y ys here, counted_here p ys i x at passes))
  | inr past ↦
      (let rest = filter_one p ys i x at passes (omega (arith, count_no p y ys past))
      in (
        filter_no p y ys past ∙ rest.0,
        filter_yes (λ z. not (p z)) y ys (not_from_false (p y) past)
            ∙ ap (λ l. y ∷ l) rest.1,
      ))
]

-- what a filter keeps stands in the list, and passes
pub filter_there : {X : Type 0} (p : X → Bool) (xs : List X) (i : ℕ) (x : X) → slice_get (filter p xs) i ≡ Some x
    → (j : ℕ) × (slice_get xs j ≡ Some x) × (p x ≡ true)
filter_there p [] i x at = absurd (cc)
filter_there p (y ∷ ys) i x at = elim (cases_Bool (p y)) [
  | inr past ↦ more (filter_there p ys i x (sym (ap (λ l. slice_get l i) (filter_no p y ys past)) ∙ at))
  | inl here ↦
      first here i (sym (ap (λ l. slice_get l i) (filter_yes p y ys here)) ∙ at)
      (λ j there. filter_there p ys j x there)
]
  where
    more : (j : ℕ) × (slice_get ys j ≡ Some x) × (p x ≡ true) → (j : ℕ) × (slice_get (y ∷ ys) j ≡ Some x) × (p x ≡ true)
    more rest = (suc rest.0, rest.1, rest.2)

    first : p y ≡ true → (j : ℕ) → slice_get (y ∷ filter p ys) j ≡ Some x
        → ((k : ℕ) → slice_get (filter p ys) k ≡ Some x → (j : ℕ) × (slice_get ys j ≡ Some x) × (p x ≡ true))
        → (j : ℕ) × (slice_get (y ∷ ys) j ≡ Some x) × (p x ≡ true)
    first here zero there later = (0, there, subst (λ z. p z ≡ true) (same_Some y x there) here)
    first here (suc j) there later = more (later j there)

-- what stands in a mapped list comes from an element
pub map_there : {X Y : Type 0} (f : X → Y) (xs : List X) (i : ℕ) (y : Y) → slice_get (map f xs) i ≡ Some y
    → (x : X) × (slice_get xs i ≡ Some x) × (f x ≡ y)
map_there f [] i y at = absurd (cc)
map_there f (x ∷ xs) zero y at = (x, refl, same_Some (f x) y at)
map_there f (x ∷ xs) (suc i) y at = map_there f xs i y at

-- where one passes, one of what a filter keeps does, if the filter keeps all that pass
pub any_in_filter : {X : Type 0} (p q : X → Bool) (xs : List X) → ((x : X) → p x ≡ true → q x ≡ true)
    → list_any p xs ≡ true → list_any p (filter q xs) ≡ true
any_in_filter p q [] keeps any = any
any_in_filter p q (x ∷ xs) keeps any = elim (cases_Bool (q x)) [
  | inl kept ↦
      ap (list_any p) (filter_yes q x xs kept)
      ∙ elim (or_cases (p x) (list_any p xs) any) [
        | inl here ↦ or_left (p x) (list_any p (filter q xs)) here
        | inr later ↦ or_right (p x) (list_any p (filter q xs)) (any_in_filter p q xs keeps later)
      ]
  | inr out ↦
      ap (list_any p) (filter_no q x xs out)
      ∙ elim (or_cases (p x) (list_any p xs) any) [
        | inl here ↦ absurd (both_ways (q x) out (keeps x here))
        | inr later ↦ any_in_filter p q xs keeps later
      ]
]

-- one more element that fails changes nothing
pub any_push_no : {X : Type 0} (p : X → Bool) (xs : List X) (x : X) → p x ≡ false
    → list_any p (xs ++ x ∷ []) ≡ list_any p xs
any_push_no p xs x none = list_any-append p xs (x ∷ []) ∙ alone (list_any p xs) (p x) none
  where
    alone : (a b : Bool) → b ≡ false → (a || (b || false)) ≡ a
    alone true b e = refl
    alone false b e = rw e refl

-- where none passes both tests, none of what the one keeps passes the other
pub none_in_both : {X : Type 0} (p q : X → Bool) (xs : List X) → list_any (λ x. p x && q x) xs ≡ false
    → list_any p (filter q xs) ≡ false
none_in_both p q [] none = refl
none_in_both p q (x ∷ xs) none =
    let parts = or_parts (p x && q x) (list_any (λ y. p y && q y) xs) none
    in by_test (q x) parts.0 (none_in_both p q xs parts.1)
  where
    by_test : (b : Bool) → (p x && b) ≡ false → list_any p (filter q xs) ≡ false
        → list_any p (cond b (x ∷ filter q xs) (filter q xs)) ≡ false
    by_test true fails rest = or_from (p x) (list_any p (filter q xs)) (left (p x) fails) rest
      where
        left : (a : Bool) → (a && true) ≡ false → a ≡ false
        left true e = absurd (cc)
        left false e = refl
    by_test false fails rest = rest
