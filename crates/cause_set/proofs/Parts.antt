-- A cost that is split over some sets: what a process bears is no more than the cost.
use Rattle.std.proofs.Common.{◌≡◌, ℕ, zero, suc, ◌+◌, ◌/◌, ◌<◌, ◌≤◌, Bool, true, false, cond, List, [], ◌∷◌, length, take, get_or, refl, ap, sym, ◌∙◌, arith}
use Rattle.std.specs.List.{range_with_len, enumerate_from, sum_by}
use Rattle.std.proofs.lemmas.Bool.Decides.{nat_tests}
use Rattle.std.proofs.lemmas.List.FromFn.{get_or-enumerate_from, length-enumerate_from}
use Rattle.std.proofs.lemmas.List.Sums.{sum_by-cons, sum_by_more, sum_by-take-le}
use Rattle.std.specs.Prelude.{All}
use Rattle.std.proofs.lemmas.List.{take_all}
use Rattle.std.proofs.lemmas.List.Elements.{All-head, All-tail}
use Rattle.std.proofs.lemmas.Nat.{div-add-mod'}
use Rattle.std.proofs.Math.Nat.{suc-mul}
use Rattle.split_types.specs.Sets.{pids, has}
use Rattle.split_types.specs.Share.{share, rank, share_of, bill_of_parts}
use Rattle.split_types.proofs.Shared.{rank-below, sum_by_both, sum_by_none, shares_of_pids}
use Rattle.cause_set.specs.Shares.{IsPart, BillsAddUp}
use Rattle.cause_set.proofs.AddUp.{shares_add_up}

-- what a process bears of one of m parts
abbrev pub part_share : ℕ → ℕ → ℕ → ℕ × List ℕ → ℕ
part_share cost m p part = share_of (share cost part.0 m) part.1 p

share-le : (cost j k : ℕ) → j < k → share cost j k ≤ cost
share-le cost j zero below = absurd (omega arith)
share-le cost j (suc k) below =
    grind (arith, nat_tests, div-add-mod' cost (suc k), suc-mul k (cost / suc k))

by_test : (b : Bool) (cost s : ℕ) → (b ≡ true → s ≤ cost) → cond b s 0 ≤ cost
by_test true cost s le = le refl
by_test false cost s le = omega arith

share_of-le : (cost : ℕ) (set : List ℕ) (p : ℕ) → share_of cost set p ≤ cost
share_of-le cost set p =
    by_test (has set p) cost (share cost (rank set p) (length set))
    (λ h. share-le cost (rank set p) (length set) (rank-below set p h))

parts-le : (cost m p a : ℕ) (parts : List (List ℕ))
    → sum_by (part_share cost m p) (enumerate_from a parts) ≤ sum_by (λ j. share cost j m)
    (range_with_len a (length parts))
parts-le cost m p a [] = omega arith
parts-le cost m p a (part ∷ parts) =
    omega (
      arith,
      sum_by-cons (part_share cost m p) (a, part) (enumerate_from (a + 1) parts),
      sum_by-cons (λ j. share cost j m) a (range_with_len (a + 1) (length parts)),
      share_of-le (share cost a m) part p,
      parts-le cost m p (a + 1) parts,
    )

pub bill-le : (cost : ℕ) (parts : List (List ℕ)) (p : ℕ) → bill_of_parts cost parts p ≤ cost
bill-le cost [] p = omega arith
bill-le cost (part ∷ parts) p =
    omega (
      arith,
      parts-le cost (length (part ∷ parts)) p 0 (part ∷ parts),
      shares_add_up cost (length (part ∷ parts)) (omega arith),
    )

-- what a process bears of the first parts
abbrev pub first_parts : ℕ → List (List ℕ) → ℕ → ℕ → ℕ
first_parts cost parts p n = sum_by (part_share cost (length parts) p) (take n (enumerate_from 0 parts))

pub first_parts-le : (cost : ℕ) (parts : List (List ℕ)) (p n : ℕ) → first_parts cost parts p n ≤ cost
first_parts-le cost parts p n =
    omega
    (arith, sum_by-take-le (part_share cost (length parts) p) (enumerate_from 0 parts) n, bill-le cost parts p)

pub first_parts-more : (cost : ℕ) (parts : List (List ℕ)) (p n : ℕ) (part : List ℕ) → n < length parts
    → part ≡ get_or parts n part →
    first_parts cost parts p (n + 1) ≡ first_parts cost parts p n + share_of (share cost n (length parts)) part p
first_parts-more cost parts p n part within is =
    let here : get_or (enumerate_from 0 parts) n (0, part) ≡ (0 + n, get_or parts n part) =
    get_or-enumerate_from 0 parts n (0, part) within in
    let place : 0 + n ≡ n = omega arith in
    sum_by_more (part_share cost (length parts) p) (enumerate_from 0 parts) n (0, part)
    (omega (arith, length-enumerate_from 0 parts))
    ∙ ap (λ q. first_parts cost parts p n + part_share cost (length parts) p q) here
    ∙ ap (λ i. first_parts cost parts p n + share_of (share cost i (length parts)) (get_or parts n part) p) place
    ∙ ap (λ s. first_parts cost parts p n + share_of (share cost n (length parts)) s p) (sym is)

pub first_parts-all : (cost : ℕ) (parts : List (List ℕ)) (p n : ℕ) → length parts ≤ n
    → first_parts cost parts p n ≡ bill_of_parts cost parts p
first_parts-all cost parts p n all =
    ap (λ l. sum_by (part_share cost (length parts) p) l)
    (take_all n (enumerate_from 0 parts) (omega (arith, length-enumerate_from 0 parts)))

-- ---- the bills of all processes

sum-same : {X : Type 0} (f g : X → ℕ) (xs : List X) → ((x : X) → f x ≡ g x) → sum_by f xs ≡ sum_by g xs
sum-same f g [] same = refl
sum-same f g (x ∷ xs) same = omega (arith, sum_by-cons f x xs, sum_by-cons g x xs, same x, sum-same f g xs same)

-- a sum of sums, the other way round
sum-swap : {X Y : Type 0} (f : X → Y → ℕ) (xs : List X) (ys : List Y)
    → sum_by (λ x. sum_by (f x) ys) xs ≡ sum_by (λ y. sum_by (λ x. f x y) xs) ys
sum-swap f [] ys = sym (sum_by_none (λ y. sum_by (λ x. f x y) []) ys (λ y. refl))
sum-swap f (x ∷ xs) ys =
    sum_by-cons (λ z. sum_by (f z) ys) x xs ∙ ap (λ n. sum_by (f x) ys + n) (sum-swap f xs ys)
    ∙ sym (sum_by_both (f x) (λ y. sum_by (λ z. f z y) xs) ys)
    ∙ sum-same (λ y. f x y + sum_by (λ z. f z y) xs) (λ y. sum_by (λ z. f z y) (x ∷ xs)) ys
    (λ y. sym (sum_by-cons (λ z. f z y) x xs))

-- the shares in the parts from one on, where each part has somebody
borne : (cost m a : ℕ) (parts : List (List ℕ)) → All IsPart parts
    → sum_by (λ part. sum_by (λ p. part_share cost m p part) pids) (enumerate_from a parts)
    ≡ sum_by (λ j. share cost j m) (range_with_len a (length parts))
borne cost m a [] are = refl
borne cost m a (part ∷ parts) are =
    let first : IsPart part = All-head IsPart part parts are in
    let here : sum_by (λ p. part_share cost m p (a, part)) pids ≡ share cost a m =
    shares_of_pids (share cost a m) part first.is_set first.some in
    sum_by-cons (λ q. sum_by (λ p. part_share cost m p q) pids) (a, part) (enumerate_from (a + 1) parts)
    ∙ ap (λ n. n + sum_by (λ q. sum_by (λ p. part_share cost m p q) pids) (enumerate_from (a + 1) parts)) here
    ∙ ap (λ n. share cost a m + n) (borne cost m (a + 1) parts (All-tail IsPart part parts are))
    ∙ sym (sum_by-cons (λ j. share cost j m) a (range_with_len (a + 1) (length parts)))

pub bills_add_up : BillsAddUp
bills_add_up cost parts some are =
    sum-swap (λ p part. part_share cost (length parts) p part) pids (enumerate_from 0 parts)
    ∙ borne cost (length parts) 0 parts are ∙ shares_add_up cost (length parts) some
