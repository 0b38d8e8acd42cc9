-- Sets of processes: what they hold, and when two are the same.
use Rattle.std.proofs.Common.{◌≡◌, ℕ, zero, suc, ◌+◌, ◌<◌, ◌≤◌, Bool, true, cond, List, [], ◌∷◌, ◌++◌, map, refl, ap, sym, ◌∙◌, arith}
use Rattle.std.specs.Prelude.{◌&&◌, filter, nat_le, nat_lt, length}
use Rattle.std.specs.List.{flat_map, range_with_len}
use Rattle.std.proofs.lemmas.List.Folds.{list_any-append}
use Rattle.std.proofs.lemmas.Bool.{false≢true}
use Rattle.std.proofs.lemmas.Bool.Decides.{nat_tests}
use Rattle.split_types.specs.Sets.{pids, has, some_has, union_of, IsSet}
use Rattle.split_types.specs.Share.{rank}

-- what a filter holds
pub has-filter : (f : ℕ → Bool) (xs : List ℕ) (p : ℕ) → has (filter f xs) p ≡ (has xs p && f p)
has-filter f [] p = refl
has-filter f (x ∷ xs) p = grind (arith, nat_tests, has-filter f xs p)

-- tests that agree on what a list holds leave the same of it
pub filter-same : (f g : ℕ → Bool) (xs : List ℕ) → ((p : ℕ) → has xs p ≡ true → f p ≡ g p) → filter f xs ≡ filter g xs
filter-same f g [] same = refl
filter-same f g (x ∷ xs) same =
    let rest : filter f xs ≡ filter g xs = filter-same f g xs (λ p h. same p (grind (arith, nat_tests))) in
    let here : f x ≡ g x = same x (grind (arith, nat_tests)) in
    rw (here, rest) refl

-- the numbers of a range, by its bounds
pub has-range : (a n p : ℕ) → has (range_with_len a n) p ≡ (nat_le a p && nat_lt p (a + n))
has-range a zero p = grind (arith, nat_tests)
has-range a (suc n) p = grind (arith, nat_tests, has-range (a + 1) n p)

-- the numbers from 1 on, by the bounds of a number among them
has-to : (most p : ℕ) → has (range_with_len 1 most) p ≡ (nat_le 1 p && nat_le p most)
has-to most p = grind (arith, nat_tests, has-range 1 most p)

-- the processes, by the bounds of their numbers
pub has-pids : (p : ℕ) → has pids p ≡ (nat_le 1 p && nat_le p 256)
unfolding pids
has-pids p = has-to 256 p

-- what a union holds
pub has-union_of : (xss : List (List ℕ)) (p : ℕ) → has (union_of xss) p ≡ (has pids p && some_has xss p)
has-union_of xss p = has-filter (some_has xss) pids p

-- a union depends on what its parts hold alone
pub union-same : (xss yss : List (List ℕ)) → ((p : ℕ) → has pids p ≡ true → some_has xss p ≡ some_has yss p)
    → union_of xss ≡ union_of yss
union-same xss yss same = filter-same (some_has xss) (some_has yss) pids same

-- a union of nothing is empty
union_nothing : (xs : List ℕ) → filter (some_has []) xs ≡ []
union_nothing [] = refl
union_nothing (x ∷ xs) = union_nothing xs

pub union-none : union_of [] ≡ []
union-none = union_nothing pids

-- what is left of the processes by a test is a set
pub filter-is_set : (f : ℕ → Bool) → IsSet (filter f pids)
filter-is_set f = filter-same (has (filter f pids)) f pids (λ p h. grind (arith, nat_tests, has-filter f pids p))

pub union-is_set : (xss : List (List ℕ)) → IsSet (union_of xss)
union-is_set xss = filter-is_set (some_has xss)

pub none-is_set : IsSet []
none-is_set = filter-same (has []) (some_has []) pids (λ p h. refl) ∙ union-none

-- a set holds processes alone
pub set-within : (xs : List ℕ) (p : ℕ) → IsSet xs → has xs p ≡ true → has pids p ≡ true
set-within xs p is h = grind (arith, nat_tests, has-filter (has xs) pids p, ap (λ s. has s p) is)

-- two sets that hold the same are the same
pub set-same : (xs ys : List ℕ) → IsSet xs → IsSet ys → ((p : ℕ) → has pids p ≡ true → has xs p ≡ has ys p) → xs ≡ ys
set-same xs ys left right same = sym left ∙ filter-same (has xs) (has ys) pids same ∙ right

-- the union of one set is that set
pub union-one : (xs : List ℕ) → IsSet xs → union_of (xs ∷ []) ≡ xs
union-one xs is = filter-same (some_has (xs ∷ [])) (has xs) pids (λ p h. grind (arith, nat_tests)) ∙ is

-- an empty part adds nothing
pub union-empty : (xss : List (List ℕ)) → union_of ([] ∷ xss) ≡ union_of xss
union-empty xss = union-same ([] ∷ xss) xss (λ p h. refl)

-- a part that is a union may be taken apart
pub union-flat : (xss yss : List (List ℕ)) → union_of (union_of xss ∷ yss) ≡ union_of (xss ++ yss)
union-flat xss yss =
    union-same (union_of xss ∷ yss) (xss ++ yss)
    (λ p h. grind (arith, nat_tests, has-union_of xss p, list_any-append (λ xs. has xs p) xss yss))

-- a union of unions holds what the union of all their parts holds
nested : {A : Type 0} (f : A → List (List ℕ)) (xs : List A) (p : ℕ) → has pids p ≡ true
    → some_has (map (λ x. union_of (f x)) xs) p ≡ some_has (flat_map f xs) p
nested f [] p h = refl
nested f (x ∷ xs) p h =
    grind
    (arith, nat_tests, has-union_of (f x) p, list_any-append (λ s. has s p) (f x) (flat_map f xs), nested f xs p h)

pub union-nest : {A : Type 0} (f : A → List (List ℕ)) (xs : List A)
    → union_of (map (λ x. union_of (f x)) xs) ≡ union_of (flat_map f xs)
union-nest f xs = union-same (map (λ x. union_of (f x)) xs) (flat_map f xs) (nested f xs)

-- what is left of a range by the test for one number
found : (a n p : ℕ) → filter (has (p ∷ [])) (range_with_len a n) ≡ cond (nat_le a p && nat_lt p (a + n)) (p ∷ []) []
found a zero p = grind (arith, nat_tests)
found a (suc n) p = grind (arith, nat_tests, found (a + 1) n p)

-- one number of those from 1 on is what is left of them by the test for it
found_to : (most p : ℕ) → 1 ≤ p → p ≤ most → filter (has (p ∷ [])) (range_with_len 1 most) ≡ p ∷ []
found_to most p first last = grind (arith, nat_tests, found 1 most p)

-- one process is a set
pub one-is_set : (p : ℕ) → 1 ≤ p → p ≤ 256 → IsSet (p ∷ [])
unfolding pids
one-is_set p first last = found_to 256 p first last

-- no more are below a process than there are
rank-at_most : (set : List ℕ) (p : ℕ) → rank set p ≤ length set
rank-at_most [] p = omega arith
rank-at_most (x ∷ xs) p = grind (arith, nat_tests, rank-at_most xs p)

-- who is in a set has a rank below its length
pub rank-below : (set : List ℕ) (p : ℕ) → has set p ≡ true → rank set p < length set
rank-below [] p h = absurd (false≢true h)
rank-below (x ∷ xs) p h = grind (arith, nat_tests, rank-at_most xs p, rank-below xs p)
