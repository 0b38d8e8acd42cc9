-- Where the sets stand that the stack has to keep, and which places hold a tag in use.
use Rattle.std.proofs.Common.{◌≡◌, ℕ, zero, suc, ◌+◌, ◌<◌, ◌≤◌, List, [], ◌∷◌, ◌++◌, length, map, get_or, nat_lt, true, false, Option, Some, None, refl, ap, sym, subst, ◌∙◌, arith, inl, inr, ◌⊎◌}
use Rattle.std.specs.Prelude.{slice_get}
use Rattle.std.specs.List.{list_any, flat_map, range_with_len}
use Rattle.std.specs.Str.{bytes_eq}
use Rattle.std.proofs.Math.ListN.{get_or-map}
use Rattle.std.proofs.lemmas.Bool.{cases_eq, cases_lt, or_cases, or_left, or_right, lt-ltb}
use Rattle.std.proofs.lemmas.List.Concat.{flat_map-cons}
use Rattle.std.proofs.lemmas.List.Folds.{list_any-append}
use Rattle.std.proofs.lemmas.Option.{same_Some}
use Rattle.split_types.specs.declared.buf.Buf.{Buf}
use Rattle.split_types.specs.declared.event.Event.{Event}
use Rattle.split_types.specs.Parents.{metadata_buffers, buffer_at}
use Rattle.split_types.specs.Sets.{union_of}
use Rattle.split_types.specs.Blame.{blame}
use Rattle.split_types.specs.LiveSets.{set_of}
use Rattle.cause_set.specs.Tags.{Tags, same, use_in, held}
use Rattle.cause_set.proofs.TagLaws.{one_use-same, one_use-other, held-cons, use_in-held}
use Rattle.journal_core.specs.Causes.{causes_in, causes_at}
use Rattle.split_core.proofs.JournalTagsKept.{blamed}
use Rattle.split_core.proofs.JournalTagsPlaces.{places, places_are, buffers_are}
use Rattle.split_core.proofs.SetsOnce.{IsIn, equals, equal}

-- ---- lists of sets
pub in_left : (a b : List (List ℕ)) (set : List ℕ) → IsIn a set → IsIn (a ++ b) set
in_left a b set is =
    list_any-append (bytes_eq set) a b ∙ or_left (list_any (bytes_eq set) a) (list_any (bytes_eq set) b) is

pub in_right : (a b : List (List ℕ)) (set : List ℕ) → IsIn b set → IsIn (a ++ b) set
in_right a b set is =
    list_any-append (bytes_eq set) a b ∙ or_right (list_any (bytes_eq set) a) (list_any (bytes_eq set) b) is

pub in_either : (a b : List (List ℕ)) (set : List ℕ) → IsIn (a ++ b) set → IsIn a set ⊎ IsIn b set
in_either a b set is =
    or_cases (list_any (bytes_eq set) a) (list_any (bytes_eq set) b) (sym (list_any-append (bytes_eq set) a b) ∙ is)

module _ {X : Type 0} (f : X → List (List ℕ)) where
  pub in_flat : (xs : List X) (i : ℕ) (x : X) (set : List ℕ) → slice_get xs i ≡ Some x → IsIn (f x) set
      → IsIn (flat_map f xs) set
  in_flat [] i x set at is = absurd (cc)
  in_flat (y ∷ ys) zero x set at is =
      ap (list_any (bytes_eq set)) (flat_map-cons f y ys)
      ∙ in_left (f y) (flat_map f ys) set (subst (λ z. IsIn (f z) set) (sym (same_Some y x at)) is)
  in_flat (y ∷ ys) (suc i) x set at is =
      ap (list_any (bytes_eq set)) (flat_map-cons f y ys)
      ∙ in_right (f y) (flat_map f ys) set (in_flat ys i x set at is)

  pub flat_in : (xs : List X) (set : List ℕ) → IsIn (flat_map f xs) set
      → (i : ℕ) × (x : X) × (slice_get xs i ≡ Some x) × IsIn (f x) set
  flat_in [] set is = absurd (cc)
  flat_in (y ∷ ys) set is =
      elim (in_either (f y) (flat_map f ys) set (sym (ap (list_any (bytes_eq set)) (flat_map-cons f y ys)) ∙ is)) [
        | inl here ↦ (0, y, refl, here)
        | inr later ↦ (let there = flat_in ys set later in (suc there.0, there.1, there.2, there.3))
      ]

-- ---- those to blame at some places
pub blamed_in : (h : List Event) (at : List ℕ) (set : List ℕ) → blamed h at ≡ Some set → IsIn (set_of h at) set
blamed_in h [] set is = absurd (cc)
blamed_in h (i ∷ at) set is =
    or_left (bytes_eq set (union_of (map (blame h) (i ∷ at)))) false
    (equal set (union_of (map (blame h) (i ∷ at))) (sym (same_Some (union_of (map (blame h) (i ∷ at))) set is)))

pub in_blamed : (h : List Event) (at : List ℕ) (set : List ℕ) → IsIn (set_of h at) set → blamed h at ≡ Some set
in_blamed h [] set is = absurd (cc)
in_blamed h (i ∷ at) set is = elim (or_cases (bytes_eq set (union_of (map (blame h) (i ∷ at)))) false is) [
  | inl here ↦ ap Some (sym (equals set (union_of (map (blame h) (i ∷ at))) here))
  | inr none ↦ absurd (cc)
]

pub blamed_some : (h : List Event) (at : List ℕ) (set : List ℕ) → blamed h at ≡ Some set
    → nat_lt 0 (length at) ≡ true
blamed_some h [] set is = absurd (cc)
blamed_some h (i ∷ at) set is = lt-ltb 0 (length (i ∷ at)) (omega arith)

pub blamed_is : (h : List Event) (at : List ℕ) → nat_lt 0 (length at) ≡ true
    → blamed h at ≡ Some (union_of (map (blame h) at))
blamed_is h [] some = absurd (cc)
blamed_is h (i ∷ at) some = refl

-- ---- places with tags
-- a place with a tag holds a use of it
pub place_holds : (xs : List (Option ℕ)) (k n : ℕ) → get_or xs k None ≡ Some n → 1 ≤ held same xs n
place_holds xs k n at =
    let below : use_in same (Some n) n ≤ held same xs n =
    subst (λ (x : Option ℕ). use_in same x n ≤ held same xs n) at (use_in-held same xs k n) in
    omega (arith, below, one_use-same n)

use_some : (x : Option ℕ) (n : ℕ) → 1 ≤ use_in same x n → x ≡ Some n
use_some None n some = absurd (omega (arith, some))
use_some (Some m) n some = elim (cases_eq n m) [
  | inl is ↦ ap Some (sym is)
  | inr other ↦ absurd (omega (arith, some, one_use-other m n other))
]

-- a use that places hold is in one of them
pub held_place : (xs : List (Option ℕ)) (n : ℕ) → 1 ≤ held same xs n
    → (k : ℕ) × (k < length xs) × (get_or xs k None ≡ Some n)
held_place [] n some = absurd (omega (arith, some))
held_place (x ∷ xs) n some = elim (cases_lt 0 (use_in same x n)) [
  | inl here ↦ (0, omega arith, use_some x n here)
  | inr none ↦ (let there = held_place xs n (omega (arith, some, none, held-cons same x xs n)) in
      (suc there.0, omega (arith, there.1), there.2))
]

-- the same of their members
pub members_held : (tags : Tags) (xs : List (Option ℕ)) (k : ℕ) (set : List ℕ)
    → get_or (causes_at same tags xs) k None ≡ Some set
    → (n : ℕ) × (1 ≤ held same xs n) × (tags.members n ≡ set)
members_held tags xs k set is = by_place (get_or xs k None) refl (sym (get_or-map (causes_in same tags) xs k None) ∙ is)
  where
    by_place : (x : Option ℕ) → get_or xs k None ≡ x → causes_in same tags x ≡ Some set
        → (n : ℕ) × (1 ≤ held same xs n) × (tags.members n ≡ set)
    by_place None at is = absurd (cc)
    by_place (Some n) at is = (n, place_holds xs k n at, same_Some (tags.members n) set is)

pub held_members : (tags : Tags) (xs : List (Option ℕ)) (n : ℕ) → 1 ≤ held same xs n
    → (k : ℕ) × (k < length xs) × (get_or (causes_at same tags xs) k None ≡ Some (tags.members n))
held_members tags xs n some =
    let there = held_place xs n some in (
      there.0,
      there.1,
      get_or-map (causes_in same tags) xs there.0 None ∙ ap (causes_in same tags) there.2,
    )

-- ---- buffers of metadata
buffer_there : (a n i : ℕ) (b : Buf) → slice_get (map buffer_at (range_with_len a n)) i ≡ Some b
    → (i < n) × (b ≡ buffer_at (a + i))
buffer_there a zero i b at = absurd (cc)
buffer_there a (suc n) zero b at =
    let e : a ≡ a + 0 = omega arith in
    (omega arith, sym (same_Some (buffer_at a) b at) ∙ ap buffer_at e)
buffer_there a (suc n) (suc i) b at =
    let there = buffer_there (a + 1) n i b at in
    let e : a + 1 + i ≡ a + suc i = omega arith in
    (omega (arith, there.0), there.1 ∙ ap buffer_at e)

there_buffer : (a n k : ℕ) → k < n → slice_get (map buffer_at (range_with_len a n)) k ≡ Some (buffer_at (a + k))
there_buffer a zero k below = absurd (omega (arith, below))
there_buffer a (suc n) zero below = let e : a ≡ a + 0 = omega arith in ap (λ x. Some (buffer_at x)) e
there_buffer a (suc n) (suc k) below =
    let e : a + 1 + k ≡ a + suc k = omega arith in
    there_buffer (a + 1) n k (omega (arith, below)) ∙ ap (λ x. Some (buffer_at x)) e

pub metadata_there : (i : ℕ) (b : Buf) → slice_get metadata_buffers i ≡ Some b → (i < 261) × (b ≡ buffer_at (i + 1))
metadata_there i b at =
    let there = buffer_there 1 places i b (sym (ap (λ l. slice_get l i) buffers_are) ∙ at) in
    let e : 1 + i ≡ i + 1 = omega arith in
    (omega (arith, there.0, places_are), there.1 ∙ ap buffer_at e)

pub there_metadata : (k : ℕ) → k < 261 → slice_get metadata_buffers k ≡ Some (buffer_at (k + 1))
there_metadata k below =
    let e : 1 + k ≡ k + 1 = omega arith in
    ap (λ l. slice_get l k) buffers_are ∙ there_buffer 1 places k (omega (arith, below, places_are))
    ∙ ap (λ x. Some (buffer_at x)) e
