-- The shares of a cost over a set: the ranks of its processes, and the sum of their shares.
use Rattle.std.proofs.Common.{◌≡◌, ℕ, zero, suc, ◌+◌, ◌*◌, ◌/◌, ◌%◌, ◌<◌, ◌≤◌, min, List, [], ◌∷◌, length, filter, sum_by, Bool, true, false, nat_lt, cond, refl, arith, subst, sym, ◌∙◌, ap}
use Rattle.std.specs.List.{range_with_len}
use Rattle.std.proofs.lemmas.Bool.Decides.{nat_tests}
use Rattle.std.proofs.lemmas.List.Sums.{sum_by-cons}
use Rattle.std.proofs.lemmas.Nat.{div-add-mod'}
use Rattle.std.proofs.Math.Nat.{mod-lt, suc-mul}
use Rattle.split_types.specs.Sets.{pids, has, IsSet}
use Rattle.split_types.specs.Share.{share, rank, share_of, bill_of_parts}
use Rattle.split_types.proofs.Sets.{has-filter, has-range, has-pids, set-within}

-- ---- ranks
-- one more stands below p + 1 than below p where p is in the set
range_rank : (f : ℕ → Bool) (a n p : ℕ)
    → rank (filter f (range_with_len a n)) (p + 1)
    ≡ rank (filter f (range_with_len a n)) p + cond (has (filter f (range_with_len a n)) p) 1 0
range_rank f a zero p = refl
range_rank f a (suc n) p =
    grind (arith, nat_tests, range_rank f (a + 1) n p, has-filter f (range_with_len (a + 1) n) p, has-range (a + 1) n p)

to_rank : (f : ℕ → Bool) (most p : ℕ)
    → rank (filter f (range_with_len 1 most)) (p + 1)
    ≡ rank (filter f (range_with_len 1 most)) p + cond (has (filter f (range_with_len 1 most)) p) 1 0
to_rank f most p = range_rank f 1 most p

pub rank_more : (set : List ℕ) (p : ℕ) → IsSet set → rank set (p + 1) ≡ rank set p + cond (has set p) 1 0
unfolding pids
rank_more set p is = subst (λ s. rank s (p + 1) ≡ rank s p + cond (has s p) 1 0) is (to_rank (has set) 256 p)

-- none of a set is below its least, all are below what is above its most
pub rank_none : (set : List ℕ) (p : ℕ) → ((q : ℕ) → has set q ≡ true → p ≤ q) → rank set p ≡ 0
rank_none [] p least = refl
rank_none (x ∷ xs) p least =
    let rest = rank_none xs p (λ q is. least q (grind (arith, nat_tests))) in
    let here : p ≤ x = least x (grind (arith, nat_tests)) in
    grind (arith, nat_tests)

pub rank_all : (set : List ℕ) (p : ℕ) → ((q : ℕ) → has set q ≡ true → q < p) → rank set p ≡ length set
rank_all [] p most = refl
rank_all (x ∷ xs) p most =
    let rest = rank_all xs p (λ q is. most q (grind (arith, nat_tests))) in
    let here : x < p = most x (grind (arith, nat_tests)) in
    grind (arith, nat_tests)

-- ---- shares
-- one more process, in the set or not, of rank r: the even part, and one more where its rank bears what is left over
one_share : (even left r s : ℕ) (b : Bool) → s ≡ r + cond b 1 0
    → cond b (even + cond (nat_lt r left) 1 0) 0 + r * even + min r left ≡ s * even + min s left
one_share even left r s false is = let same : s ≡ r = omega (arith, is) in rw same (omega arith)
one_share even left r s true is =
    let same : s ≡ suc r = omega (arith, is) in rw same (grind (arith, nat_tests, suc-mul r even))

-- the shares of n processes from a on, by the ranks of the first and of the one behind the last
some_shares : (cost : ℕ) (set : List ℕ) (a n : ℕ) → IsSet set →
    sum_by (share_of cost set) (range_with_len a n) + rank set a * (cost / length set) + min (rank set a)
    (cost % length set)
    ≡ rank set (a + n) * (cost / length set) + min (rank set (a + n)) (cost % length set)
some_shares cost set a zero is = let same : a + 0 ≡ a = omega arith in rw same (omega arith)
some_shares cost set a (suc n) is =
    let more = sum_by-cons (share_of cost set) a (range_with_len (a + 1) n) in
    let rest = some_shares cost set (a + 1) n is in
    let one =
    one_share (cost / length set) (cost % length set) (rank set a) (rank set (a + 1)) (has set a)
    (rank_more set a is)
    in
    let next : a + suc n ≡ a + 1 + n = omega arith in
    rw next (omega (arith, more, rest, one))

-- the shares of the processes of a range that has all of the set
pub shares_over : (cost : ℕ) (set : List ℕ) (n : ℕ) → IsSet set → 1 ≤ length set
    → ((p : ℕ) → has set p ≡ true → 1 ≤ p) → ((p : ℕ) → has set p ≡ true → p ≤ n)
    → sum_by (share_of cost set) (range_with_len 1 n) ≡ cost
shares_over cost set n is some least most =
    let sum = some_shares cost set 1 n is in
    let first : rank set 1 ≡ 0 = rank_none set 1 least in
    let last : rank set (1 + n) ≡ length set = rank_all set (1 + n) (λ q in'. omega (arith, most q in')) in
    let whole = div-add-mod' cost (length set) in
    let left = mod-lt cost some in
    let total : sum_by (share_of cost set) (range_with_len 1 n) + 0 * (cost / length set) + min 0
    (cost % length set)
    ≡ length set * (cost / length set) + min (length set) (cost % length set) =
    ap (λ r. sum_by (share_of cost set) (range_with_len 1 n) + r * (cost / length set) + min r (cost % length set))
    (sym first)
    ∙ sum
    ∙ ap (λ r. r * (cost / length set) + min r (cost % length set)) last in
    omega (arith, total, whole, left)

-- a sum over what passes a test, where the others count nothing
pub sum_passing : (f : ℕ → ℕ) (test : ℕ → Bool) (xs : List ℕ) → ((p : ℕ) → test p ≡ false → f p ≡ 0)
    → sum_by f (filter test xs) ≡ sum_by f xs
sum_passing f test [] none = refl
sum_passing f test (x ∷ xs) none =
    by_test (test x) refl (sum_passing f test xs none)
  where
    by_test : (b : Bool) → test x ≡ b → sum_by f (filter test xs) ≡ sum_by f xs
        → sum_by f (cond b (x ∷ filter test xs) (filter test xs)) ≡ sum_by f (x ∷ xs)
    by_test true is rest = omega (arith, sum_by-cons f x (filter test xs), sum_by-cons f x xs, rest)
    by_test false is rest = omega (arith, sum_by-cons f x xs, rest, none x is)

pub share_none : (cost : ℕ) (set : List ℕ) (p : ℕ) → has set p ≡ false → share_of cost set p ≡ 0
share_none cost set p out = ap (λ b. cond b (share cost (rank set p) (length set)) 0) out

pid_least : (p : ℕ) → has pids p ≡ true → 1 ≤ p
pid_least p is = grind (arith, nat_tests, has-pids p)

pid_most : (p : ℕ) → has pids p ≡ true → p ≤ 256
pid_most p is = grind (arith, nat_tests, has-pids p)

shares_to : (cost : ℕ) (set : List ℕ) (most : ℕ) → filter (has set) (range_with_len 1 most) ≡ set
    → sum_by (share_of cost set) (range_with_len 1 most) ≡ cost → sum_by (share_of cost set) set ≡ cost
shares_to cost set most is whole =
    ap (λ s. sum_by (share_of cost set) s) (sym is)
    ∙ sum_passing (share_of cost set) (has set) (range_with_len 1 most) (share_none cost set) ∙ whole

-- the shares of a set of processes: over the set, and over all numbers that a process may have
pub shares_of_pids : (cost : ℕ) (set : List ℕ) → IsSet set → 1 ≤ length set → sum_by (share_of cost set) pids ≡ cost
unfolding pids
shares_of_pids cost set is some =
    shares_over cost set 256 is some (λ p in'. pid_least p (set-within set p is in'))
    (λ p in'. pid_most p (set-within set p is in'))

pub shares_of_set : (cost : ℕ) (set : List ℕ) → IsSet set → 1 ≤ length set → sum_by (share_of cost set) set ≡ cost
unfolding pids
shares_of_set cost set is some = shares_to cost set 256 is (shares_of_pids cost set is some)

-- ---- one part
-- one part has the whole cost
pub share_one : (cost : ℕ) → share cost 0 1 ≡ cost
share_one cost = grind (arith, nat_tests)

pub bill_of_one : (cost : ℕ) (set : List ℕ) (p : ℕ) → bill_of_parts cost (set ∷ []) p ≡ share_of cost set p
bill_of_one cost set p = add_none (share_of (share cost 0 1) set p) ∙ ap (λ c. share_of c set p) (share_one cost)
  where
    add_none : (n : ℕ) → 0 + n ≡ n
    add_none n = omega arith
