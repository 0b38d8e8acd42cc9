-- The first element that a filter keeps is the one that a search finds.
use Rattle.std.proofs.Common.{◌≡◌, List, [], ◌∷◌, filter, find, cond, Bool, true, false, Some, refl}
use Rattle.std.specs.List.{slice_get}

pub first_kept : {X : Type 0} (p : X → Bool) (xs : List X) → slice_get (filter p xs) 0 ≡ find p xs
first_kept p [] = refl
first_kept p (x ∷ xs) = by_test (p x) (first_kept p xs)
  where
    by_test : (passes : Bool) → slice_get (filter p xs) 0 ≡ find p xs
        → slice_get (cond passes (x ∷ filter p xs) (filter p xs)) 0 ≡ cond passes (Some x) (find p xs)
    by_test true rest = refl
    by_test false rest = rest
