-- The ranks of the processes of a set, one after another.
use Rattle.std.proofs.Common.{◌≡◌, ℕ, zero, suc, ◌+◌, ◌<◌, ◌≤◌, Bool, true, false, cond, List, [], ◌∷◌, filter, refl, arith, subst}
use Rattle.std.specs.List.{range_with_len}
use Rattle.std.proofs.lemmas.Bool.Decides.{nat_tests}
use Rattle.split_types.specs.Sets.{pids, has, IsSet}
use Rattle.split_types.specs.Share.{rank}
use Rattle.split_types.proofs.Shared.{has-filter, has-range, rank_none}

-- each is below all that come behind it
abbrev pub Rises : List ℕ → Type 0
Rises [] = Unit {0}
Rises (x ∷ xs) = ((p : ℕ) → has xs p ≡ true → x < p) × Rises xs

rises_if : (t : Bool) (x : ℕ) (xs : List ℕ) → ((p : ℕ) → has xs p ≡ true → x < p) → Rises xs → Rises (cond t (x ∷ xs) xs)
rises_if true x xs above rises = (above, rises)
rises_if false x xs above rises = rises

range_rises : (f : ℕ → Bool) (a n : ℕ) → Rises (filter f (range_with_len a n))
range_rises f a zero = tt
range_rises f a (suc n) =
    rises_if (f a) a (filter f (range_with_len (a + 1) n))
    (λ p here. grind (arith, nat_tests, has-filter f (range_with_len (a + 1) n) p, has-range (a + 1) n p))
    (range_rises f (a + 1) n)

pub set_rises : (set : List ℕ) → IsSet set → Rises set
unfolding pids
set_rises set is = subst Rises is (range_rises (has set) 1 256)

-- the first one has rank 0
pub rank_first : (q : ℕ) (rest : List ℕ) → Rises (q ∷ rest) → rank (q ∷ rest) q ≡ 0
rank_first q rest rises =
    let none : rank rest q ≡ 0 = rank_none rest q (λ p here. let above = rises.0 p here in omega arith) in
    grind (arith, nat_tests)

-- one more stands below each one behind it than below it in the rest
pub rank_rest : (q p : ℕ) (rest : List ℕ) → Rises (q ∷ rest) → has rest p ≡ true
    → rank (q ∷ rest) p ≡ rank rest p + 1
rank_rest q p rest rises here = let above = rises.0 p here in grind (arith, nat_tests)
