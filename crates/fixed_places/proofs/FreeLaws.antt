-- What holds of places of which some are taken.
use Rattle.std.proofs.Common.{◌≡◌, ◌≢◌, ℕ, zero, suc, ◌+◌, ◌-◌, ◌^◌, ◌<◌, ◌≤◌, Bool, true, false, cond, List, [], ◌∷◌, ◌++◌, length, get_or, set, replicate, arith, refl, ap, sym, subst, ◌∙◌, inl, inr, get_or-set_other, get_or-set_same, length-set, length-append}
use Rattle.std.proofs.lemmas.Bool.{cases_eq, cases_lt}
use Rattle.std.proofs.lemmas.List.{get_or-replicate, get_or_past, length-replicate, get_or_append_left, get_or_push, length_push}
use Rattle.std.proofs.lemmas.List.Sums.{sum_by-set, sum_by-cons}
use Rattle.std.specs.List.{count_by, sum_by}
use Rattle.fixed_places.specs.Free.{AreFree}

-- how many are taken, after a write
pub count-set : (taken : List Bool) (at : ℕ) (now : Bool) → at < length taken
    → count_by (λ place. place) (set taken at now) + cond (get_or taken at false) 1 0
    ≡ count_by (λ place. place) taken + cond now 1 0
count-set taken at now within = sum_by-set (λ place. cond place 1 0) taken at now false within

pub taken-within : (taken : List Bool) (at : ℕ) → get_or taken at false ≡ true → at < length taken
taken-within taken at h =
    elim (cases_lt at (length taken)) [
      | inl inside ↦ inside
      | inr past ↦ let no = get_or_past taken at false past in
          absurd (cc)
    ]

pub none-taken : (places : ℕ) → count_by (λ place. place) (replicate places false) ≡ 0
none-taken zero = refl
none-taken (suc places) = omega (
  arith,
  sum_by-cons (λ place. cond place 1 0) false (replicate places false),
  none-taken places,
)

pub free-new : (places room : ℕ) → places ≤ 2 ^ 32 → places ≤ room → AreFree (replicate places false) 0 [] 0 room
free-new places room few enough =
    let len : length (replicate places false) ≡ places = length-replicate places false in
    record {
      few = rw len few;
      within = omega arith;
      unused = λ i h. elim (cases_lt i places) [
        | inl inside ↦ get_or-replicate places i false false inside
        | inr past ↦ get_or_past (replicate places false) i false (rw len past)
      ];
      free = λ k h. absurd (omega arith);
      seen = λ k h. absurd (omega arith);
      apart = λ k j h l. absurd (omega arith);
      counted = sym (none-taken places);
      each = refl;
      enough = rw len enough;
    }

-- the place given back last is taken
pub free-retake : (taken : List Bool) (used : ℕ) (rest : List ℕ) (count room at : ℕ)
    → AreFree taken used (rest ++ at ∷ []) count room
    → AreFree (set taken at true) used rest (count + 1) room
free-retake taken used rest count room at f =
    let returned = rest ++ at ∷ [] in
    let more : length returned ≡ length rest + 1 = length_push rest at in
    let last : get_or returned (length rest) 0 ≡ at = get_or_push rest at 0 (length rest) refl in
    let is_free : get_or taken at false ≡ false = rw last at (f.free (length rest) (omega (arith, more))) in
    let is_seen : at < used = rw last at (f.seen (length rest) (omega (arith, more))) in
    let within : at < length taken = let h = f.within in omega arith in
    let counts : count_by (λ place. place) (set taken at true) + cond (get_or taken at false) 1 0
    ≡ count_by (λ place. place) taken + 1 = count-set taken at true within in
    let counted = f.counted in
    let each = f.each in
    let old : (k : ℕ) → k < length rest → get_or returned k 0 ≡ get_or rest k 0 = λ k h.
    get_or_append_left rest (at ∷ []) 0 k h in
    let known : (k : ℕ) → k < length rest → get_or rest k 0 ≢ at =
    λ k h e. f.apart k (length rest) h (omega (arith, more)) (old k h ∙ e ∙ sym last) in
    record {
      few = rw (length-set taken at true) f.few;
      within = rw (length-set taken at true) f.within;
      unused = λ i h. let apart : i ≢ at = omega arith in
          rw (get_or-set_other taken at i true false apart) (f.unused i h);
      free = λ k h. rw (get_or-set_other taken at (get_or rest k 0) true false (known k h))
          (rw (old k h) at (f.free k (omega (arith, more))));
      seen = λ k h. rw (old k h) at (f.seen k (omega (arith, more)));
      apart = λ k j h l.
          let k_in : k < length rest = omega arith in
          λ e. f.apart k j h (omega (arith, more)) (old k k_in ∙ e ∙ sym (old j l));
      counted = let plain = rw is_free at counts in omega (arith, plain, counted);
      each = omega (arith, each, more);
      enough = rw (length-set taken at true) f.enough;
    }

-- a place is taken that never was
pub free-take : (taken : List Bool) (used count room : ℕ) → AreFree taken used [] count room → count < length taken
    → AreFree (set taken used true) (used + 1) [] (count + 1) room
free-take taken used count room f some =
    let each = f.each in
    let within : used < length taken = omega arith in
    let is_free : get_or taken used false ≡ false = f.unused used (omega arith) in
    let counts : count_by (λ place. place) (set taken used true) + cond (get_or taken used false) 1 0
    ≡ count_by (λ place. place) taken + 1 = count-set taken used true within in
    let counted = f.counted in
    record {
      few = rw (length-set taken used true) f.few;
      within = rw (length-set taken used true) (omega arith);
      unused = λ i h. let apart : i ≢ used = omega arith in
          rw (get_or-set_other taken used i true false apart) (f.unused i (omega arith));
      free = λ k h. absurd (omega arith);
      seen = λ k h. absurd (omega arith);
      apart = λ k j h l. absurd (omega arith);
      counted = let plain = rw is_free at counts in omega (arith, plain, counted);
      each = omega (arith, each);
      enough = rw (length-set taken used true) f.enough;
    }

pub free-retaken : (taken : List Bool) (used : ℕ) (returned rest : List ℕ) (count room at : ℕ)
    → AreFree taken used returned count room
    → returned ≡ rest ++ at ∷ [] → AreFree (set taken at true) used rest (count + 1) room
free-retaken taken used returned rest count room at f e =
    free-retake taken used rest count room at (subst (λ (places : List ℕ). AreFree taken used places count room) e f)

pub free-taken : (taken : List Bool) (used : ℕ) (returned rest : List ℕ) (count room : ℕ)
    → AreFree taken used returned count room
    → returned ≡ [] → rest ≡ [] → count < length taken → AreFree (set taken used true) (used + 1) rest (count + 1) room
free-taken taken used returned rest count room f none none_now some =
    rw none_now (free-take taken used count room (subst (λ (places : List ℕ). AreFree taken used places count room) none
    f) some)

-- a taken place counts
pub taken-counts : (taken : List Bool) (at : ℕ) → get_or taken at false ≡ true
    → count_by (λ place. place) (set taken at false) + 1 ≡ count_by (λ place. place) taken
taken-counts taken at is_taken =
    let counts = count-set taken at false (taken-within taken at is_taken) in
    let plain = rw is_taken at counts in
    omega (arith, plain)

-- and so there is room to give it back
pub room-left : (taken : List Bool) (used : ℕ) (returned : List ℕ) (count room at : ℕ)
    → AreFree taken used returned count room
    → get_or taken at false ≡ true → length returned < room
room-left taken used returned count room at f is_taken =
    let each = f.each in
    let counted = f.counted in
    let within = f.within in
    let enough = f.enough in
    omega (arith, taken-counts taken at is_taken)

-- a taken place is given back
pub free-give : (taken : List Bool) (used : ℕ) (returned : List ℕ) (count room at : ℕ)
    → AreFree taken used returned count room
    → get_or taken at false ≡ true → AreFree (set taken at false) used (returned ++ at ∷ []) (count - 1) room
free-give taken used returned count room at f is_taken =
    let within : at < length taken = taken-within taken at is_taken in
    let len : length (set taken at false) ≡ length taken = length-set taken at false in
    let more : length (returned ++ at ∷ []) ≡ length returned + 1 = length_push returned at in
    let counts = taken-counts taken at is_taken in
    let counted = f.counted in
    let each = f.each in
    let last : get_or (returned ++ at ∷ []) (length returned) 0 ≡ at =
    get_or_push returned at 0 (length returned) refl in
    let old : (k : ℕ) → k < length returned → get_or (returned ++ at ∷ []) k 0 ≡ get_or returned k 0 = λ k h.
    get_or_append_left returned (at ∷ []) 0 k h in
    let other : (k : ℕ) → k < length returned → get_or returned k 0 ≢ at = λ k h e. let no = f.free k h in
    let there = rw (← e) at is_taken in cc in
    record {
      few = rw len f.few;
      within = rw len f.within;
      unused = λ i h. elim (cases_eq i at) [
        | inl here ↦ rw (here, get_or-set_same taken at false false within) refl
        | inr apart ↦ rw (get_or-set_other taken at i false false apart) (f.unused i h)
      ];
      free = λ k h. elim (cases_lt k (length returned)) [
        | inl before ↦ rw (old k before, get_or-set_other taken at (get_or returned k 0) false false (other k before))
            (f.free k before)
        | inr after ↦ let e : k ≡ length returned = omega arith in
            rw (e, last, get_or-set_same taken at false false within) refl
      ];
      seen = λ k h. elim (cases_lt k (length returned)) [
        | inl before ↦ rw (old k before) (f.seen k before)
        | inr after ↦ let e : k ≡ length returned = omega arith in rw (e, last) (used_if_taken is_taken)
      ];
      apart = λ k j h l. elim (cases_lt j (length returned)) [
        | inl before ↦ let k_in : k < length returned = omega arith in
            rw (old j before, old k k_in) (f.apart k j h before)
        | inr after ↦
            let e : j ≡ length returned = omega arith in
            let k_in : k < length returned = omega arith in
            rw (e, last, old k k_in) (other k k_in)
      ];
      counted = omega (arith, counts, counted);
      each = rw more (omega (arith, each, counts, counted));
      enough = rw len f.enough;
    }
  where
    used_if_taken : get_or taken at false ≡ true → at < used
    used_if_taken h = elim (cases_lt at used) [
      | inl inside ↦ inside
      | inr past ↦ let no = f.unused at past in
          absurd (cc)
    ]
