-- What places hold: empty ones, and the first ones of a list.
use Rattle.std.proofs.Common.{◌≡◌, ◌⊎◌, ℕ, zero, suc, ◌+◌, ◌-◌, ◌<◌, ◌≤◌, List, [], ◌∷◌, ◌++◌, length, get_or, set, take, map, replicate, Option, Some, None, IsSome, arith, refl, sym, ◌∙◌, inl, inr}
use Rattle.std.proofs.lemmas.Bool.{cases_lt}
use Rattle.std.proofs.lemmas.List.{get_or-replicate, get_or_past, length-replicate, get_or-append_right, get_or_append_left, get_or-take, length-take-le, set_at, take_more, append_assoc}
use Rattle.std.specs.Option.{option_map}

-- empty places
abbrev pub empty_places : (X : Type 0) → ℕ → List (Option X)
empty_places X n = replicate n None

pub get_or-none : {X : Type 0} (n i : ℕ) → get_or (empty_places X n) i None ≡ None
get_or-none {X} n i =
    elim (cases_lt i n) [
      | inl inside ↦ get_or-replicate n i None None inside
      | inr past ↦ get_or_past (replicate n None) i None (let len : length (empty_places X n) ≡ n =
          length-replicate n None in rw len past)
    ]

-- a place that holds something is one of the places
pub some-within : {X : Type 0} (held : List (Option X)) (at : ℕ) → IsSome (get_or held at None) → at < length held
some-within held at h =
    elim (cases_lt at (length held)) [
      | inl inside ↦ inside
      | inr past ↦ let none = get_or_past held at None past in absurd (cc)
    ]

-- the first places of a list, and behind them empty ones
abbrev pub front : {X : Type 0} → List (Option X) → ℕ → ℕ → List (Option X)
front held places at = take at held ++ replicate (places - at) None

pub front-more : {X : Type 0} (held : List (Option X)) (places at : ℕ) → at < length held → length held ≤ places
    → set (front held places at) at (get_or held at None) ≡ front held places (at + 1)
front-more {X} held places at within few =
    let empty : Option X = None in
    let rest = replicate (places - (at + 1)) empty in
    let one_more : places - at ≡ suc (places - (at + 1)) = omega arith in
    let len : length (take at held) ≡ at = length-take-le at held (omega arith) in
    rw (one_more, take_more held at None within)
    (set_at (take at held) empty rest (get_or held at None) at len
    ∙ sym (append_assoc (take at held) (get_or held at None ∷ []) rest))

pub front-empty : {X : Type 0} (held : List (Option X)) (places at : ℕ) → at < length held
    → get_or (front held places at) at None ≡ None
front-empty {X} held places at within =
    let len : length (take at held) ≡ at = length-take-le at held (omega arith) in
    get_or-append_right (take at held) (empty_places X (places - at)) at at None len (omega arith)
    ∙ get_or-none (places - at) (at - at)

pub front-read : {X : Type 0} (held : List (Option X)) (places at i : ℕ) (x : X) → at < length held
    → get_or (front held places at) i None ≡ Some x → (i < at) × (get_or held i None ≡ Some x)
front-read {X} held places at i x within h =
    let len : length (take at held) ≡ at = length-take-le at held (omega arith) in
    elim (cases_lt i at) [
      | inl before ↦ (
        before,
        sym (get_or-take at held i None before)
            ∙ (sym (get_or_append_left (take at held) (empty_places X (places - at)) None i (rw len before)) ∙ h),
      )
      | inr behind ↦
          let none = get_or-append_right (take at held) (empty_places X (places - at)) at i None len behind
          ∙ get_or-none (places - at) (i - at) in
          absurd (cc)
    ]

-- a place, after each was mapped
pub get_or-map-option : {X Y : Type 0} (f : X → Y) (held : List (Option X)) (i : ℕ)
    → get_or (map (option_map f) held) i None ≡ option_map f (get_or held i None)
get_or-map-option f [] i = refl
get_or-map-option f (x ∷ xs) zero = refl
get_or-map-option f (x ∷ xs) (suc i) = get_or-map-option f xs i
