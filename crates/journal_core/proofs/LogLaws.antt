-- Laws of the blocks of a log: marked blocks are what a descriptor names, and which images are taken doesn't depend on
-- what the marks are.
use Rattle.std.proofs.Common.{◌≡◌, ℕ, zero, suc, ◌+◌, ◌-◌, ◌^◌, ◌<◌, ◌≤◌, List, [], ◌∷◌, map, length, get_or, set, cond, Option, Some, None, refl, ap, ◌∙◌, arith}
use Rattle.std.specs.Prelude.{IsSome, slice_get}
use Rattle.std.proofs.lemmas.Bool.{false≢true}
use Rattle.std.proofs.lemmas.Option.{slice_get_within, get_or_from_slice_get}
use Rattle.std.specs.Option.{option_map, is_some}
use Rattle.std.proofs.lemmas.List.Elements.{All-from_get_or}
use Rattle.split_types.specs.DiskLayout.{IsDescriptor}
use Rattle.journal_core.specs.Places.{blocks_from, blocks_of, taken_from, place_in}
use Rattle.journal_core.proofs.PlaceLaws.{blocks-at_most, first-carried}

-- what is seen as something is something
pub map-some : {X Y : Type 0} (place : Option X) (f : X → Y) → IsSome (option_map f place) → IsSome place
map-some None f some = some
map-some (Some x) f some = refl

module _ {X : Type 0} where
  -- no block lies before the first place's, and none behind the last one's
  blocks-least : (block : ℕ) (places : List (Option X)) (k : ℕ) → k < length (blocks_from block places)
      → block ≤ get_or (blocks_from block places) k 0
  blocks-least block [] k within = absurd (omega (arith, within))
  blocks-least block (None ∷ places) k within = omega (arith, blocks-least (block + 1) places k within)
  blocks-least block (Some x ∷ places) zero within = omega arith
  blocks-least block (Some x ∷ places) (suc k) within =
      omega (arith, blocks-least (block + 1) places k (omega (arith, within)))

  blocks-most : (block : ℕ) (places : List (Option X)) (k : ℕ) → k < length (blocks_from block places)
      → get_or (blocks_from block places) k 0 < block + length places
  blocks-most block [] k within = absurd (omega (arith, within))
  blocks-most block (None ∷ places) k within = omega (arith, blocks-most (block + 1) places k within)
  blocks-most block (Some x ∷ places) zero within = omega arith
  blocks-most block (Some x ∷ places) (suc k) within =
      omega (arith, blocks-most (block + 1) places k (omega (arith, within)))

  blocks-rise : (block : ℕ) (places : List (Option X)) (k : ℕ) → k + 1 < length (blocks_from block places)
      → get_or (blocks_from block places) k 0 < get_or (blocks_from block places) (k + 1) 0
  blocks-rise block [] k within = absurd (omega (arith, within))
  blocks-rise block (None ∷ places) k within = blocks-rise (block + 1) places k within
  blocks-rise block (Some x ∷ places) zero within = omega (
    arith,
    blocks-least (block + 1) places 0 (omega (arith, within)),
  )
  blocks-rise block (Some x ∷ places) (suc k) within =
      let next : suc k + 1 ≡ suc (k + 1) = omega arith in
      rw next (blocks-rise (block + 1) places k (omega (arith, within)))

  -- a transaction may name them
  pub blocks-described : (t : ℕ) (places : List (Option X)) → 1 ≤ t → t < 2 ^ 32 → length places ≡ 261
      → 0 < length (blocks_of places)
      → IsDescriptor t (blocks_of places)
  blocks-described t places first fits len some = record {
    first = first;
    fits = fits;
    some = omega (arith, some);
    few = omega (arith, blocks-at_most places, len);
    rising = λ k within. blocks-rise 1 places k within;
    within =
        All-from_get_or (λ home. (1 ≤ home) × (home ≤ 261)) (blocks_of places) 0
        (λ k within. (blocks-least 1 places k within, omega (arith, blocks-most 1 places k within, len)));
  }

  -- the first block, as it is listed
  pub first-block : (places : List (Option X)) (first : ℕ) → slice_get (blocks_of places) 0 ≡ Some first
      → (1 ≤ first) × (first - 1 < length places)
  first-block places first is =
      let some : 0 < length (blocks_of places) = slice_get_within (blocks_of places) 0 first is in
      let read : get_or (blocks_of places) 0 0 ≡ first = get_or_from_slice_get (blocks_of places) 0 first 0 is in (
        omega (arith, blocks-least 1 places 0 some, read),
        omega (arith, blocks-least 1 places 0 some, blocks-most 1 places 0 some, read),
      )

  -- its place has something
  some-from : (block first : ℕ) (places : List (Option X)) → slice_get (blocks_from block places) 0 ≡ Some first
      → (block ≤ first) × IsSome (get_or places (first - block) None)
  some-from block first [] is = cc
  some-from block first (None ∷ places) is =
      let found = some-from (block + 1) first places is in
      let at : first - block ≡ suc (first - (block + 1)) = omega (arith, found.0) in
      (omega (arith, found.0), rw at found.1)
  some-from block first (Some x ∷ places) is =
      let same : block ≡ first = cc in
      let at : first - block ≡ 0 = omega (arith, same) in
      (omega (arith, same), rw at refl)

  home-of : (places : List (Option X)) (home : Option ℕ) → slice_get (blocks_of places) 0 ≡ home → IsSome home
      → (place_in home < length places) × IsSome (get_or places (place_in home) None)
  home-of places None is some = absurd (false≢true some)
  home-of places (Some first) is some = ((first-block places first is).1, (some-from 1 first places is).1)

  pub home-some : (places : List (Option X)) → IsSome (slice_get (blocks_of places) 0)
      → (place_in (slice_get (blocks_of places) 0) < length places)
      × IsSome (get_or places (place_in (slice_get (blocks_of places) 0)) None)
  home-some places some = home-of places (slice_get (blocks_of places) 0) refl some

  -- without it, one block less is left
  less-from : (places : List (Option X)) (home : Option ℕ) (blocks : List ℕ) → blocks_of places ≡ blocks
      → slice_get blocks 0 ≡ home → IsSome home
      → length (blocks_of (set places (place_in home) None)) + 1 ≡ length (blocks_of places)
  less-from places None blocks is first some = absurd (false≢true some)
  less-from places (Some x) [] is first some = cc
  less-from places (Some x) (block ∷ blocks) is first some =
      let same : block ≡ x = cc in
      let found = first-carried places x blocks (is ∙ ap (λ b. b ∷ blocks) same) in
      omega (arith, ap length found.2, ap length is)

  pub home-less : (places : List (Option X)) → IsSome (slice_get (blocks_of places) 0)
      → length (blocks_of (set places (place_in (slice_get (blocks_of places) 0)) None)) + 1 ≡ length (blocks_of places)
  home-less places some = less-from places (slice_get (blocks_of places) 0) (blocks_of places) refl refl some

  pub taken-map : {Y : Type 0} (f : X → Y) (image : ℕ → List ℕ) (block : ℕ) (marks : List (Option X))
      (images : List (List ℕ))
      → taken_from image block (map (option_map f) marks) images ≡ taken_from image block marks images
  taken-map f image block [] images = refl
  taken-map f image block (None ∷ marks) [] = refl
  taken-map f image block (Some x ∷ marks) [] = refl
  taken-map f image block (None ∷ marks) (old ∷ images) =
      ap (λ is. old ∷ is) (taken-map f image (block + 1) marks images)
  taken-map f image block (Some x ∷ marks) (old ∷ images) =
      ap (λ is. image block ∷ is) (taken-map f image (block + 1) marks images)

  pub taken-length : (image : ℕ → List ℕ) (block : ℕ) (marks : List (Option X)) (images : List (List ℕ))
      → length (taken_from image block marks images) ≡ length images
  taken-length image block [] images = refl
  taken-length image block (None ∷ marks) [] = refl
  taken-length image block (Some x ∷ marks) [] = refl
  taken-length image block (None ∷ marks) (old ∷ images) = ap (λ n. suc n) (taken-length image (block + 1) marks images)
  taken-length image block (Some x ∷ marks) (old ∷ images) =
      ap (λ n. suc n) (taken-length image (block + 1) marks images)

  -- images that were taken anew, place by place
  pub taken-is : (image : ℕ → List ℕ) (block : ℕ) (marks : List (Option X)) (old new : List (List ℕ))
      → length new ≡ length old
      → length old ≡ length marks
      → ((k : ℕ) → k < length marks → get_or new k [] ≡ cond (is_some (get_or marks k None)) (image (block + k))
      (get_or old k []))
      → new ≡ taken_from image block marks old
  taken-is image block [] [] [] nl ml each = refl
  taken-is image block [] [] (n ∷ new) nl ml each = absurd (omega (arith, nl))
  taken-is image block [] (o ∷ old) new nl ml each = absurd (omega (arith, ml))
  taken-is image block (None ∷ marks) [] new nl ml each = absurd (omega (arith, ml))
  taken-is image block (Some x ∷ marks) [] new nl ml each = absurd (omega (arith, ml))
  taken-is image block (None ∷ marks) (o ∷ old) [] nl ml each = absurd (omega (arith, nl))
  taken-is image block (Some x ∷ marks) (o ∷ old) [] nl ml each = absurd (omega (arith, nl))
  taken-is image block (None ∷ marks) (o ∷ old) (n ∷ new) nl ml each =
      let here : n ≡ o = each 0 (omega arith) in
      let rest : new ≡ taken_from image (block + 1) marks old =
      taken-is image (block + 1) marks old new (omega (arith, nl)) (omega (arith, ml))
      (λ k within.
      each (suc k) (omega (arith, within))
      ∙ ap (λ b. cond (is_some (get_or marks k None)) (image b) (get_or old k [])) (omega arith)) in
      rw (here, rest) refl
  taken-is image block (Some x ∷ marks) (o ∷ old) (n ∷ new) nl ml each =
      let here : n ≡ image block = each 0 (omega arith) ∙ ap image (omega arith) in
      let rest : new ≡ taken_from image (block + 1) marks old =
      taken-is image (block + 1) marks old new (omega (arith, nl)) (omega (arith, ml))
      (λ k within.
      each (suc k) (omega (arith, within))
      ∙ ap (λ b. cond (is_some (get_or marks k None)) (image b) (get_or old k [])) (omega arith)) in
      rw (here, rest) refl
