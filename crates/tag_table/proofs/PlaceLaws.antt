-- What places hold: behind the last one, where one is emptied, and where empty ones are added.
use Rattle.std.proofs.Common.{◌≡◌, ℕ, zero, suc, ◌<◌, List, [], ◌∷◌, ◌++◌, length, get_or, set, replicate, Option, Some, None, refl, inl, inr}
use Rattle.std.proofs.lemmas.Bool.{cases_lt}
use Rattle.std.proofs.lemmas.List.{get_or_past}

module _ {X : Type 0} where
  -- a place that holds something is one of the places
  pub some-within : (held : List (Option X)) (at : ℕ) (x : X) → get_or held at None ≡ Some x → at < length held
  some-within held at x here =
      elim (cases_lt at (length held)) [
        | inl inside ↦ inside
        | inr past ↦ let none = get_or_past held at None past in absurd (cc)
      ]

  pub emptied-same : (held : List (Option X)) (at : ℕ) → get_or (set held at None) at None ≡ None
  emptied-same [] at = refl
  emptied-same (x ∷ held) zero = refl
  emptied-same (x ∷ held) (suc at) = emptied-same held at

  get_or-none : (n i : ℕ) → (let none : List (Option X) = replicate n None in get_or none i None ≡ None)
  get_or-none zero i = refl
  get_or-none (suc n) zero = refl
  get_or-none (suc n) (suc i) = get_or-none n i

  -- empty places behind the others change none
  pub get_or-widened : (held : List (Option X)) (n i : ℕ)
      → get_or (held ++ replicate n None) i None ≡ get_or held i None
  get_or-widened [] n i = get_or-none n i
  get_or-widened (x ∷ held) n zero = refl
  get_or-widened (x ∷ held) n (suc i) = get_or-widened held n i
