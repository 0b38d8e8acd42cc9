-- Laws of tags in places that are seen as their numbers.
use Rattle.std.proofs.Common.{◌≡◌, ℕ, zero, suc, ◌+◌, ◌<◌, List, [], ◌∷◌, length, get_or, set, Option, Some, None, refl, ap, sym, ◌∙◌, arith}
use Rattle.std.specs.Option.{option_map}
use Rattle.cause_set.specs.Tags.{Tags, Moved, no_use, one_use, same, numbers, use_in, held}
use Rattle.cause_set.proofs.TagLaws.{use_in-held, use_in-same, held-set, held-same, moved-as, moved-then}
use Rattle.journal_core.specs.Causes.{Covered, causes_in, causes_at}
use Rattle.journal_core.proofs.CauseLaws.{causes_at-get, causes_at-keeps}

-- a place gets a tag, and the one that it had is given up
pub put-moved : (old mid new : Tags) (places : List (Option ℕ)) (at c : ℕ) → at < length places
    → Moved old mid no_use (one_use c)
    → Moved mid new (use_in same (get_or places at None)) no_use
    → Moved old new (held same places) (held same (set places at (Some c)))
put-moved old mid new places at c within first second =
    let each : (n : ℕ) → held same (set places at (Some c)) n + use_in same (get_or places at None) n
    ≡ held same places n + one_use c n =
    λ n. held-set same places at (Some c) n within in
    moved-then old mid new no_use (one_use c) (use_in same (get_or places at None)) no_use (held same places)
    (held same (set places at (Some c)))
    first second (λ n. omega (arith, each n)) (λ n. omega arith) (λ n. omega (arith, use_in-held same places at n))

module _ {T : Type 0} (number : T → ℕ) where
  pub numbers-get : (places : List (Option T)) (at : ℕ)
      → get_or (numbers number places) at None ≡ option_map number (get_or places at None)
  numbers-get [] at = refl
  numbers-get (place ∷ places) zero = refl
  numbers-get (place ∷ places) (suc at) = numbers-get places at

  causes-same : (tags : Tags) (place : Option T) → causes_in same tags (option_map number place)
      ≡ causes_in number tags place
  causes-same tags None = refl
  causes-same tags (Some t) = refl

  pub causes_at-same : (tags : Tags) (places : List (Option T))
      → causes_at same tags (numbers number places) ≡ causes_at number tags places
  causes_at-same tags [] = refl
  causes_at-same tags (place ∷ places) = rw (causes-same tags place, causes_at-same tags places) refl

  -- a place of a list that is covered
  pub place-live : (tags : Tags) (places : List (Option T)) (at : ℕ) (place : Option T) → place ≡ get_or places at None
      → Covered (held same (numbers number places)) tags → Covered (use_in number place) tags
  place-live tags places at place read covers n =
      omega (
        arith,
        covers n,
        held-same number places n,
        use_in-held number places at n,
        ap (λ x. use_in number x n) read,
      )

  -- its use is that of its number
  pub place-use : (places : List (Option T)) (at : ℕ) (place : Option T) → place ≡ get_or places at None
      → (n : ℕ) → use_in same (get_or (numbers number places) at None) n ≡ use_in number place n
  place-use places at place read n =
      ap (λ x. use_in same x n) (numbers-get places at) ∙ use_in-same number (get_or places at None) n
      ∙ ap (λ x. use_in number x n) (sym read)

  pub place-moved : (old new : Tags) (places : List (Option T)) (at : ℕ) (place : Option T)
      → place ≡ get_or places at None
      → Moved old new (use_in number place) no_use → Moved old new
      (use_in same (get_or (numbers number places) at None)) no_use
  place-moved old new places at place read m =
      moved-as old new (use_in number place) no_use (use_in same (get_or (numbers number places) at None)) no_use m
      (place-use places at place read) (λ n. refl)

  -- its causes
  pub place-causes : (tags : Tags) (places : List (Option T)) (at : ℕ) (place : Option T)
      → place ≡ get_or places at None
      → causes_in number tags place ≡ get_or (causes_at same tags (numbers number places)) at None
  place-causes tags places at place read =
      ap (causes_in number tags) read ∙ sym (causes-same tags (get_or places at None))
      ∙ ap (causes_in same tags) (sym (numbers-get places at))
      ∙ sym (causes_at-get same tags (numbers number places) at)

  -- all tags of a list are given up
  pub all-moved : (old new : Tags) (places : List (Option T)) → Moved old new (held number places) no_use
      → Moved old new (held same (numbers number places)) no_use
  all-moved old new places m =
      moved-as old new (held number places) no_use (held same (numbers number places)) no_use m
      (held-same number places) (λ n. refl)

  -- a list is made, and another one given up for it
  pub swap-moved : (old mid new : Tags) (places made : List (Option T)) → Moved old mid no_use (held number made)
      → Moved mid new (held number places) no_use → Moved old new (held same (numbers number places))
      (held same (numbers number made))
  swap-moved old mid new places made first second =
      moved-as old new (held number places) (held number made) (held same (numbers number places))
      (held same (numbers number made))
      (moved-then old mid new no_use (held number made) (held number places) no_use (held number places)
      (held number made) first second
      (λ n. omega arith) (λ n. omega arith) (λ n. omega arith))
      (held-same number places) (held-same number made)

  -- and has the causes that it was made with
  pub swap-causes : (old mid new : Tags) (places made : List (Option T)) (causes : List (Option (List ℕ)))
      → Covered (held number places) old → Moved old mid no_use (held number made)
      → Moved mid new (held number places) no_use
      → causes_at number mid made ≡ causes → causes_at same new (numbers number made) ≡ causes
  swap-causes old mid new places made causes covers first second is =
      causes_at-same new made
      ∙ causes_at-keeps number mid new (held number places) no_use made second (λ n.
      omega (arith, covers n, first.uses n))
      ∙ is
