-- Laws of tags, for the crates that hold them: what is held of a list of places, and what a call that is
-- lent a store leaves as it was.
use Rattle.std.proofs.Common.{◌≡◌, ◌≢◌, ℕ, zero, suc, ◌+◌, ◌<◌, ◌≤◌, List, [], ◌∷◌, ◌++◌, length, get_or, set, replicate, Option, Some, None, refl, ap, ◌∙◌, arith}
use Rattle.std.proofs.lemmas.Bool.Decides.{nat_tests}
use Rattle.std.proofs.lemmas.List.{get_or-set_other}
use Rattle.std.proofs.lemmas.List.Sums.{sum_by-cons, sum_by-append, sum_by-set}
use Rattle.std.specs.Option.{option_map}
use Rattle.cause_set.specs.Tags.{Tags, Moved, no_use, one_use, same, numbers, use_in, held, Covers, set_in, set_at, sets_of}

-- ---- uses

-- a tag is one use of its number
pub one_use-same : (m : ℕ) → one_use m m ≡ 1
one_use-same m = grind (arith, nat_tests)

-- and of no other
pub one_use-other : (m n : ℕ) → n ≢ m → one_use m n ≡ 0
one_use-other m n apart = grind (arith, nat_tests)

-- ---- what a call does to a store

-- nothing moves where nothing is called
pub moved-none : (tags : Tags) → Moved tags tags no_use no_use
moved-none tags = record { uses = λ n. refl; keeps = λ n some. refl }

-- the same uses under other names
pub moved-as : (old new : Tags) (gone come gone' come' : ℕ → ℕ) → Moved old new gone come
    → ((n : ℕ) → gone' n ≡ gone n) → ((n : ℕ) → come' n ≡ come n) → Moved old new gone' come'
moved-as old new gone come gone' come' m g c =
    record { uses = λ n. omega (arith, m.uses n, g n, c n); keeps = λ n some. m.keeps n (omega (arith, g n)) }

-- one call after another: what went and what came is what both moved, and of a number with more uses than went
-- in all, neither call took them all
pub moved-then : (old mid new : Tags) (g1 c1 g2 c2 gone come : ℕ → ℕ) → Moved old mid g1 c1 → Moved mid new g2 c2
    → ((n : ℕ) → gone n + (c1 n + c2 n) ≡ come n + (g1 n + g2 n)) → ((n : ℕ) → g1 n ≤ gone n)
    → ((n : ℕ) → g1 n + g2 n ≤ gone n + c1 n) → Moved old new gone come
moved-then old mid new g1 c1 g2 c2 gone come a b sums first second =
    record {
      uses = λ n. omega (arith, a.uses n, b.uses n, sums n);
      keeps = λ n some. b.keeps n (omega (arith, a.uses n, second n)) ∙ a.keeps n (omega (arith, first n));
    }

-- who holds `others` beside what a call was lent for holds them afterwards, with what came
pub moved-covers : (old new : Tags) (gone come others : ℕ → ℕ) → Moved old new gone come
    → ((n : ℕ) → others n + gone n ≤ old.uses n) → (n : ℕ) → others n + come n ≤ new.uses n
moved-covers old new gone come others m covers n = omega (arith, m.uses n, covers n)

module _ {T : Type 0} (number : T → ℕ) where
  -- ---- members

  -- a tag that is held beside what went keeps its members
  pub set_in-keeps : (old new : Tags) (gone come : ℕ → ℕ) (x : Option T) → Moved old new gone come
      → ((n : ℕ) → gone n + use_in number x n ≤ old.uses n) → set_in number new x ≡ set_in number old x
  set_in-keeps old new gone come None m live = refl
  set_in-keeps old new gone come (Some t) m live =
      m.keeps (number t) (omega (arith, live (number t), one_use-same (number t)))

  -- a place holds no more than the list
  pub use_in-held : (xs : List (Option T)) (i n : ℕ) → use_in number (get_or xs i None) n ≤ held number xs n
  use_in-held [] i n = omega arith
  use_in-held (x ∷ xs) zero n = omega (arith, sum_by-cons (λ place. use_in number place n) x xs)
  use_in-held (x ∷ xs) (suc i) n = omega (arith, sum_by-cons (λ place. use_in number place n) x xs, use_in-held xs i n)

  -- each place of a list that is held beside what went keeps its members
  pub set_at-keeps : (old new : Tags) (gone come : ℕ → ℕ) (xs : List (Option T)) (i : ℕ) → Moved old new gone come
      → ((n : ℕ) → gone n + held number xs n ≤ old.uses n) → set_at number new xs i ≡ set_at number old xs i
  set_at-keeps old new gone come xs i m live =
      set_in-keeps old new gone come (get_or xs i None) m (λ n. omega (arith, live n, use_in-held xs i n))

  pub sets_of-keep : (old new : Tags) (gone come : ℕ → ℕ) (xs : List (Option T)) → Moved old new gone come
      → ((n : ℕ) → gone n + held number xs n ≤ old.uses n) → sets_of number new xs ≡ sets_of number old xs
  sets_of-keep old new gone come [] m live = refl
  sets_of-keep old new gone come (x ∷ xs) m live =
      let here : set_in number new x ≡ set_in number old x =
      set_in-keeps old new gone come x m
      (λ n. omega (arith, live n, sum_by-cons (λ place. use_in number place n) x xs))
      in
      let rest : sets_of number new xs ≡ sets_of number old xs =
      sets_of-keep old new gone come xs m
      (λ n. omega (arith, live n, sum_by-cons (λ place. use_in number place n) x xs))
      in
      rw (here, rest) refl

  -- a place that is written leaves the members of the others
  pub set_at-other : (tags : Tags) (xs : List (Option T)) (at i : ℕ) (x : Option T) → i ≢ at
      → set_at number tags (set xs at x) i ≡ set_at number tags xs i
  set_at-other tags xs at i x apart = ap (set_in number tags) (get_or-set_other xs at i x None apart)

  -- ---- what is held

  pub held-cons : (x : Option T) (xs : List (Option T)) (n : ℕ)
      → held number (x ∷ xs) n ≡ use_in number x n + held number xs n
  held-cons x xs n = sum_by-cons (λ place. use_in number place n) x xs

  pub held-append : (xs ys : List (Option T)) (n : ℕ) → held number (xs ++ ys) n ≡ held number xs n + held number ys n
  held-append xs ys n = sum_by-append (λ place. use_in number place n) xs ys

  -- a place that is written
  pub held-set : (xs : List (Option T)) (i : ℕ) (x : Option T) (n : ℕ) → i < length xs
      → held number (set xs i x) n + use_in number (get_or xs i None) n ≡ held number xs n + use_in number x n
  held-set xs i x n within = sum_by-set (λ place. use_in number place n) xs i x None within

  -- empty places hold nothing
  pub held-empty : (count n : ℕ) → held number (replicate count None) n ≡ 0
  held-empty zero n = refl
  held-empty (suc count) n = omega (arith, held-cons None (replicate count None) n, held-empty count n)

  -- ---- tags that are seen as their numbers

  pub use_in-same : (x : Option T) (n : ℕ) → use_in same (option_map number x) n ≡ use_in number x n
  use_in-same None n = refl
  use_in-same (Some t) n = refl

  pub held-same : (xs : List (Option T)) (n : ℕ) → held same (numbers number xs) n ≡ held number xs n
  held-same [] n = refl
  held-same (x ∷ xs) n =
      omega (
        arith,
        sum_by-cons (λ place. use_in same place n) (option_map number x) (numbers number xs),
        held-cons x xs n,
        use_in-same x n,
        held-same xs n,
      )

  pub set_in-same : (tags : Tags) (x : Option T) → set_in same tags (option_map number x) ≡ set_in number tags x
  set_in-same tags None = refl
  set_in-same tags (Some t) = refl

  pub set_at-same : (tags : Tags) (xs : List (Option T)) (i : ℕ)
      → set_at same tags (numbers number xs) i ≡ set_at number tags xs i
  set_at-same tags [] i = refl
  set_at-same tags (x ∷ xs) zero = set_in-same tags x
  set_at-same tags (x ∷ xs) (suc i) = set_at-same tags xs i

  pub sets_of-same : (tags : Tags) (xs : List (Option T))
      → sets_of same tags (numbers number xs) ≡ sets_of number tags xs
  sets_of-same tags [] = refl
  sets_of-same tags (x ∷ xs) = rw (set_in-same tags x, sets_of-same tags xs) refl

  -- a call that was lent a store for these places, by their numbers
  pub moved-same : (old new : Tags) (xs ys : List (Option T)) → Moved old new (held number xs) (held number ys)
      → Moved old new (held same (numbers number xs)) (held same (numbers number ys))
  moved-same old new xs ys m =
      moved-as old new (held number xs) (held number ys) (held same (numbers number xs))
      (held same (numbers number ys)) m (held-same xs) (held-same ys)

  pub covers-same : (tags : Tags) (xs : List (Option T)) → Covers number xs tags → Covers same (numbers number xs) tags
  covers-same tags xs covers n = omega (arith, covers n, held-same xs n)

  pub covers-number : (tags : Tags) (xs : List (Option T)) → Covers same (numbers number xs) tags
      → Covers number xs tags
  covers-number tags xs covers n = omega (arith, covers n, held-same xs n)
