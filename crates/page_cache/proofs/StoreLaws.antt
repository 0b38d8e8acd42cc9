-- What a store has where the tag of one place is put, changed or released.
use Rattle.std.proofs.Common.{◌≡◌, ◌≢◌, ℕ, ◌+◌, ◌<◌, ◌≤◌, List, length, get_or, set, Option, Some, None, arith, refl, ◌∙◌, get_or-set_other}
use Rattle.cause_set.specs.Tags.{Tags, Moved, no_use, one_use, same, use_in, held, Covers, set_in}
use Rattle.cause_set.proofs.TagLaws.{one_use-same, moved-then, set_in-keeps, use_in-held, held-set}

-- two places hold no more than the list
pub two-held : (xs : List (Option ℕ)) (at i n : ℕ) → at < length xs → i ≢ at
    → use_in same (get_or xs at None) n + use_in same (get_or xs i None) n ≤ held same xs n
two-held xs at i n within apart =
    let there : get_or (set xs at None) i None ≡ get_or xs i None = get_or-set_other xs at i None None apart in
    let below : use_in same (get_or xs i None) n ≤ held same (set xs at None) n =
    rw (← there) (use_in-held same (set xs at None) i n)
    in
    let none : use_in same None n ≡ 0 = refl in
    omega (arith, below, held-set same xs at None n within, none)

-- a tag comes, then that of a place is released, and the first is put there
module _ (xs : List (Option ℕ)) (at t : ℕ) (before mid after : Tags) (came : Moved before mid no_use (one_use t))
    (went : Moved mid after (use_in same (get_or xs at None)) no_use) (covers : Covers same xs before)
    (within : at < length xs) where
  pub put-moved : Moved before after (held same xs) (held same (set xs at (Some t)))
  put-moved =
      record {
        uses = λ n.
            let one : use_in same (Some t) n ≡ one_use t n = refl in
            omega (arith, came.uses n, went.uses n, held-set same xs at (Some t) n within, one);
        keeps = λ n some.
            went.keeps n (omega (arith, came.uses n, use_in-held same xs at n, some))
            ∙ came.keeps n (omega (arith, some));
      }

  pub put-set : after.members t ≡ mid.members t
  put-set = went.keeps t (omega (arith, came.uses t, one_use-same t, use_in-held same xs at t, covers t))

  pub put-others : (i : ℕ) → i ≢ at → set_in same after (get_or xs i None) ≡ set_in same before (get_or xs i None)
  put-others i apart =
      set_in-keeps same mid after (use_in same (get_or xs at None)) no_use (get_or xs i None) went
      (λ n. omega (arith, came.uses n, two-held xs at i n within apart, covers n))
      ∙ set_in-keeps same before mid no_use (one_use t) (get_or xs i None) came
      (λ n. omega (arith, two-held xs at i n within apart, covers n))

-- the tag of a place is released
module _ (xs : List (Option ℕ)) (at : ℕ) (before after : Tags)
    (went : Moved before after (use_in same (get_or xs at None)) no_use) (covers : Covers same xs before)
    (within : at < length xs) where
  pub gone-moved : Moved before after (held same xs) (held same (set xs at None))
  gone-moved =
      record {
        uses = λ n.
            let none : use_in same None n ≡ 0 = refl in
            omega (arith, went.uses n, held-set same xs at None n within, none);
        keeps = λ n some. went.keeps n (omega (arith, use_in-held same xs at n, some));
      }

  pub gone-others : (i : ℕ) → i ≢ at → set_in same after (get_or xs i None) ≡ set_in same before (get_or xs i None)
  gone-others i apart =
      set_in-keeps same before after (use_in same (get_or xs at None)) no_use (get_or xs i None) went
      (λ n. omega (arith, two-held xs at i n within apart, covers n))

-- one call after another, for what is held
pub held-then : (before mid after : Tags) (xs ys zs : List (Option ℕ)) → Moved before mid (held same xs) (held same ys)
    → Moved mid after (held same ys) (held same zs) → Moved before after (held same xs) (held same zs)
held-then before mid after xs ys zs a b =
    moved-then before mid after (held same xs) (held same ys) (held same ys) (held same zs) (held same xs)
    (held same zs) a b
    (λ n. omega arith) (λ n. omega arith) (λ n. omega arith)

-- what is held is covered again
pub held-covers : (before after : Tags) (xs ys : List (Option ℕ)) → Covers same xs before
    → Moved before after (held same xs) (held same ys) → Covers same ys after
held-covers before after xs ys covers m n = omega (arith, m.uses n, covers n)

-- nothing moves, so nothing does for what is held
pub still-held : (before after : Tags) (xs : List (Option ℕ)) → Moved before after no_use no_use
    → Moved before after (held same xs) (held same xs)
still-held before after xs m = record {
  uses = λ n. omega (arith, m.uses n);
  keeps = λ n some.
      m.keeps n (omega (arith, some));
}
