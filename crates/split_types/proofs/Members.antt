-- What stands in lists of numbers that are joined.
use Rattle.std.proofs.Common.{◌≡◌, ℕ, Bool, true, ◌||◌, List, [], ◌∷◌, ◌++◌, map, arith, refl, ap, ◌∙◌}
use Rattle.std.specs.Prelude.{◌==◌}
use Rattle.std.specs.List.{list_any, flat_map}
use Rattle.std.proofs.lemmas.Bool.Decides.{nat_tests}
use Rattle.std.proofs.lemmas.List.Concat.{flat_map-cons}
use Rattle.std.proofs.lemmas.List.Folds.{list_any-append}
use Rattle.split_types.specs.Sets.{has}

pub has-append : (xs ys : List ℕ) (p : ℕ) → has (xs ++ ys) p ≡ (has xs p || has ys p)
has-append xs ys p = list_any-append (λ q. q == p) xs ys

-- what stands in a `flat_map` stands in one of its lists
pub has-flat_map : {X : Type 0} (f : X → List ℕ) (xs : List X) (p : ℕ)
    → has (flat_map f xs) p ≡ list_any (λ x. has (f x) p) xs
has-flat_map f [] p = refl
has-flat_map f (x ∷ xs) p =
    ap (λ l. has l p) (flat_map-cons f x xs) ∙ has-append (f x) (flat_map f xs) p
    ∙ ap (λ t. has (f x) p || t) (has-flat_map f xs p)

-- a test that holds at a member of a list holds at one of its values
pub list_any-map_at : {X : Type 0} (test : X → Bool) (f : ℕ → X) (is : List ℕ) (i : ℕ) → has is i ≡ true
    → test (f i) ≡ true → list_any test (map f is) ≡ true
list_any-map_at test f [] i h t = cc
list_any-map_at test f (j ∷ is) i h t = grind (arith, nat_tests, list_any-map_at test f is i)
