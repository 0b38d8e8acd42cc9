-- What becomes of the piles of places when a place is put under a key, and when the top of a key is taken.
use Rattle.std.proofs.Common.{◌≡◌, ◌≢◌, ℕ, ◌+◌, ◌-◌, ◌<◌, ◌≤◌, ◌^◌, List, ◌++◌, length, Option, Some, None, get_or, set, refl, sym, ap, ◌∙◌, subst, inl, inr, arith, length-set, length-append, replicate, get_or-set_same, get_or-set_other}
use Rattle.std.proofs.lemmas.List.{get_or_past, get_or_append_left, get_or-append_right, length-replicate}
use Rattle.fixed_places.proofs.PlaceLaws.{empty_places, get_or-none}
use Rattle.std.specs.Prelude.{◌==◌, if◌then◌else◌, MatchOption}
use Rattle.std.proofs.lemmas.Bool.{cases_eq, cases_lt}
use Rattle.std.proofs.lemmas.Bool.Decides.{nat_tests}
use Rattle.fixed_places.specs.Groups.{HasKey, IsTop, IsBelow, ArePiles, IsLifted}

-- one place is raised
pub raise : (ℕ → ℕ) → ℕ → ℕ → ℕ → ℕ
raise height at high i = if i == at then high else height i

raise-same : (height : ℕ → ℕ) (at high : ℕ) → raise height at high at ≡ high
unfolding raise
raise-same height at high = grind (arith, nat_tests)

raise-other : (height : ℕ → ℕ) (at high i : ℕ) → i ≢ at → raise height at high i ≡ height i
unfolding raise
raise-other height at high i other = grind (arith, nat_tests)

module _ {K : Type 0} where
  -- what the places hold after a write, and what they held before it
  here : (keys : List (Option K)) (at : ℕ) (key k : K) → at < length keys
      → get_or (set keys at (Some key)) at None ≡ Some k → key ≡ k
  here keys at key k within h = let same : get_or (set keys at (Some key)) at None ≡ Some key =
      get_or-set_same keys at (Some key) None within in cc

  before : (keys : List (Option K)) (at i : ℕ) (held : Option K) (k : K) → i ≢ at
      → get_or (set keys at held) i None ≡ Some k → get_or keys i None ≡ Some k
  before keys at i held k other h = sym (get_or-set_other keys at i held None other) ∙ h

  after : (keys : List (Option K)) (at i : ℕ) (held : Option K) (k : K) → i ≢ at → get_or keys i None ≡ Some k
      → get_or (set keys at held) i None ≡ Some k
  after keys at i held k other h = get_or-set_other keys at i held None other ∙ h

  filled : (keys : List (Option K)) (at i : ℕ) (k : K) → get_or keys at None ≡ None → get_or keys i None ≡ Some k
      → i ≢ at
  filled keys at i k empty h same = let moved : get_or keys at None ≡ Some k =
      subst (λ j. get_or keys j None ≡ Some k) same h in cc

  one_key : (a b : K) → Some a ≡ Some b → a ≡ b
  one_key a b same = cc

  none_of : (held : Option K) → ((k : K) → held ≡ Some k → ⊥) → held ≡ None
  none_of None h = refl
  none_of (Some k) h = absurd (h k refl)

  -- the height is above all places of the key, and the place is the highest of them, if there is one
  pub record Covers (keys : List (Option K)) (height : ℕ → ℕ) (key : K) (high : ℕ) (place : Option ℕ) : Type 0 where
    pub above : (i : ℕ) → HasKey keys key i → height i < high
    pub highest : MatchOption place ((i : ℕ) → HasKey keys key i → ⊥) (IsTop keys height key)

  pub covers : (keys tops left : List (Option K)) (below : List (Option ℕ)) (key : K) (place : Option ℕ)
      → (piles : ArePiles keys tops below) → IsLifted tops left key place
      → (high : ℕ) × Covers keys piles.height key high place
  covers keys tops left below key None piles lifted = (
    0,
    record {
      above = λ i h. absurd (piles.topped i key h lifted.was);
      highest = λ i h.
          piles.topped i key h lifted.was;
    },
  )
  covers keys tops left below key (Some top) piles lifted =
      let t = piles.top top key lifted.was.here in
      (piles.height top + 1, record { above = λ i h. omega (arith, t.highest i h); highest = t })

  module _ (keys tops left : List (Option K)) (below : List (Option ℕ)) (at : ℕ) (key : K) (place : Option ℕ)
      (piles : ArePiles keys tops below) (lifted : IsLifted tops left key place) (high : ℕ)
      (covered : Covers keys piles.height key high place)
      (within : at < length keys) (empty : get_or keys at None ≡ None) where
    abbrev pub new_keys : List (Option K)
    new_keys = set keys at (Some key)

    abbrev pub new_height : ℕ → ℕ
    new_height = raise piles.height at high

    -- all places of the key are below the one that is put, or that one
    at_most : (i : ℕ) → HasKey new_keys key i → new_height i ≤ high
    at_most i h =
        elim (cases_eq i at) [
          | inl same ↦ rw same (rw (raise-same piles.height at high) (omega arith))
          | inr other ↦ rw (raise-other piles.height at high i other)
              (omega (arith, covered.above i (before keys at i (Some key) key other h)))
        ]

    -- a place of another key keeps its height, and stays the top of its pile where it was
    top_other : (i : ℕ) (k : K) → i ≢ at → get_or left i None ≡ Some k → IsTop new_keys new_height k i
    top_other i k other h =
        let was = piles.top i k (lifted.kept i k h) in
        record {
          here = after keys at i (Some key) k other was.here;
          highest = λ j hj. rw (raise-other piles.height at high i other) (elim (cases_eq j at) [
            | inl same ↦
                let is : key ≡ k = here keys at key k within
                (subst (λ m. get_or (set keys at (Some key)) m None ≡ Some k) same hj) in
                absurd (lifted.gone i (subst (λ q. get_or left i None ≡ Some q) (sym is) h))
            | inr apart ↦ rw (raise-other piles.height at high j apart)
                (was.highest j (before keys at j (Some key) k apart hj))
          ]);
        }

    top_new : IsTop new_keys new_height key at
    top_new = record {
      here = get_or-set_same keys at (Some key) None within;
      highest = λ i h. rw (raise-same piles.height at high) (at_most i h);
    }

    -- what lies below the place that is put
    under_new : (p : Option ℕ) → MatchOption p ((i : ℕ) → HasKey keys key i → ⊥) (IsTop keys piles.height key)
        → IsBelow new_keys new_height key at p
    under_new None none = λ i h. elim (cases_eq i at) [
      | inl same ↦ rw same (omega arith)
      | inr other ↦ absurd (none i (before keys at i (Some key) key other h))
    ]
    under_new (Some t) is =
        let apart : t ≢ at = filled keys at t key empty is.here in (
          after keys at t (Some key) key apart is.here,
          rw (raise-same piles.height at high, raise-other piles.height at high t apart) (covered.above t is.here),
          λ i h lower. elim (cases_eq i at) [
            | inl same ↦ absurd (omega (
              arith,
              subst (λ m. raise piles.height at high m < raise piles.height at high at)
                  same lower,
            ))
            | inr other ↦ rw (raise-other piles.height at high i other, raise-other piles.height at high t apart)
                (is.highest i (before keys at i (Some key) key other h))
          ],
        )

    -- what lies below another place stays
    under_other : (i : ℕ) (k : K) → i ≢ at → HasKey keys k i → (p : Option ℕ) → IsBelow keys piles.height k i p
        → IsBelow new_keys new_height k i p
    under_other i k other has None lowest = λ j h. elim (cases_eq j at) [
      | inl same ↦
          let is : key ≡ k = here keys at key k within
          (subst (λ m. get_or (set keys at (Some key)) m None ≡ Some k) same h) in
          let low : piles.height i < high = covered.above i (subst (λ q. get_or keys i None ≡ Some q) (sym is) has) in
          rw same (rw (raise-same piles.height at high, raise-other piles.height at high i other) (omega arith))
      | inr apart ↦ rw (raise-other piles.height at high i other, raise-other piles.height at high j apart)
          (lowest j (before keys at j (Some key) k apart h))
    ]
    under_other i k other has (Some b) is =
        let apart : b ≢ at = filled keys at b k empty is.0 in (
          after keys at b (Some key) k apart is.0,
          rw (raise-other piles.height at high i other, raise-other piles.height at high b apart) is.1,
          λ j h lower. elim (cases_eq j at) [
            | inl same ↦
                let key_is : key ≡ k = here keys at key k within
                (subst (λ m. get_or (set keys at (Some key)) m None ≡ Some k) same h) in
                let low : piles.height i < high = covered.above i
                (subst (λ q. get_or keys i None ≡ Some q) (sym key_is) has) in
                let up : raise piles.height at high at < raise piles.height at high i =
                subst (λ m. raise piles.height at high m < raise piles.height at high i) same lower in
                absurd (omega (
                  arith,
                  low,
                  up,
                  raise-same piles.height at high,
                  raise-other piles.height at high i other,
                ))
            | inr another ↦
                let down : piles.height j < piles.height i =
                rw (raise-other piles.height at high j another, raise-other piles.height at high i other) at lower
                in
                rw (raise-other piles.height at high j another, raise-other piles.height at high b apart)
                (is.2 j (before keys at j (Some key) k another h) down)
          ],
        )

    pub put_on : ArePiles new_keys (set left at (Some key)) (set below at place)
    put_on =
        let room : at < length left = rw (lifted.len ∙ piles.tops_len) within in
        let room_below : at < length below = rw piles.below_len within in
        let out : get_or left at None ≡ None = none_of (get_or left at None) (λ k h.
        filled keys at at k empty (piles.top at k (lifted.kept at k h)).here refl) in
        record {
          few = rw (length-set keys at (Some key)) piles.few;
          tops_len = rw (length-set left at (Some key), length-set keys at (Some key)) (lifted.len ∙ piles.tops_len);
          below_len = rw (length-set below at place, length-set keys at (Some key)) piles.below_len;
          height = new_height;
          top = λ i k h. elim (cases_eq i at) [
            | inl same ↦
                let is : key ≡ k = here left at key k room
                (subst (λ m. get_or (set left at (Some key)) m None ≡ Some k) same h) in
                rw same (subst (λ q. IsTop new_keys new_height q at) is top_new)
            | inr other ↦ top_other i k other (before left at i (Some key) k other h)
          ];
          topped = λ i k h absent.
              let table_has : get_or (set left at (Some key)) at None ≡ Some key =
              get_or-set_same left at (Some key) None room in
              elim (cases_eq i at) [
                | inl same ↦
                    let is : key ≡ k = here keys at key k within
                    (subst (λ m. get_or (set keys at (Some key)) m None ≡ Some k) same h) in
                    absent at (table_has ∙ ap Some is)
                | inr other ↦
                    piles.topped i k (before keys at i (Some key) k other h) (λ j hj. elim (lifted.rest j k hj) [
                      | inl stays ↦ absent j (after left at j (Some key) k (filled left at j k out stays) stays)
                      | inr is ↦ absent at (table_has ∙ ap Some (sym is))
                    ])
              ];
          apart = λ i j k hi hj same. elim (cases_eq i at) [
            | inl i_at ↦ elim (cases_eq j at) [
              | inl j_at ↦ i_at ∙ sym j_at
              | inr j_other ↦
                  let is : key ≡ k = here keys at key k within
                  (subst (λ m. get_or (set keys at (Some key)) m None ≡ Some k) i_at hi) in
                  let low : piles.height j < high = covered.above j
                  (subst (λ q. get_or keys j None ≡ Some q) (sym is) (before keys at j (Some key) k j_other hj)) in
                  let even : raise piles.height at high at ≡ raise piles.height at high j =
                  subst (λ m. raise piles.height at high m ≡ raise piles.height at high j) i_at same in
                  absurd (omega (
                    arith,
                    low,
                    even,
                    raise-same piles.height at high,
                    raise-other piles.height at high j j_other,
                  ))
            ]
            | inr i_other ↦ elim (cases_eq j at) [
              | inl j_at ↦
                  let is : key ≡ k = here keys at key k within
                  (subst (λ m. get_or (set keys at (Some key)) m None ≡ Some k) j_at hj) in
                  let low : piles.height i < high = covered.above i
                  (subst (λ q. get_or keys i None ≡ Some q) (sym is) (before keys at i (Some key) k i_other hi)) in
                  let even : raise piles.height at high i ≡ raise piles.height at high at =
                  subst (λ m. raise piles.height at high i ≡ raise piles.height at high m) j_at same in
                  absurd (omega (
                    arith,
                    low,
                    even,
                    raise-same piles.height at high,
                    raise-other piles.height at high i i_other,
                  ))
              | inr j_other ↦
                  let even : piles.height i ≡ piles.height j = sym (raise-other piles.height at high i i_other) ∙ same
                  ∙ raise-other piles.height at high j j_other in
                  piles.apart i j k (before keys at i (Some key) k i_other hi)
                  (before keys at j (Some key) k j_other hj) even
            ]
          ];
          next = λ i k h. elim (cases_eq i at) [
            | inl same ↦
                let is : key ≡ k = here keys at key k within
                (subst (λ m. get_or (set keys at (Some key)) m None ≡ Some k) same h) in
                rw same (rw (get_or-set_same below at place None room_below)
                (subst (λ q. IsBelow new_keys new_height q at place) is (under_new place covered.highest)))
            | inr other ↦
                let has = before keys at i (Some key) k other h in
                rw (get_or-set_other below at i place None other)
                (under_other i k other has (get_or below i None) (piles.next i k has))
          ];
        }

  -- empty places are in no pile
  pub piles-new : (places : ℕ) → places ≤ 2 ^ 32 → ArePiles {K = K} (replicate places None) (replicate places None)
      (replicate places None)
  piles-new places few =
      let len : length (empty_places K places) ≡ places = length-replicate places None in
      let len' : length (empty_places ℕ places) ≡ places = length-replicate places None in
      record {
        few = rw len few;
        tops_len = refl;
        below_len = len' ∙ sym len;
        height = λ i. 0;
        top = λ i k h. let no = get_or-none {X = K} places i in absurd (cc);
        topped = λ i k h. let no = get_or-none {X = K} places i in absurd (cc);
        apart = λ i j k h. let no = get_or-none {X = K} places i in absurd (cc);
        next = λ i k h. let no = get_or-none {X = K} places i in absurd (cc);
      }

  held-within : (keys : List (Option K)) (i : ℕ) (k : K) → get_or keys i None ≡ Some k → i < length keys
  held-within keys i k h =
      elim (cases_lt i (length keys)) [
        | inl inside ↦ inside
        | inr past ↦ let no : get_or keys i None ≡ None = get_or_past keys i None past in absurd (cc)
      ]

  -- what a place holds after another was emptied, it held before
  left_out : (keys : List (Option K)) (at i : ℕ) (k : K) → at < length keys → get_or (set keys at None) i None ≡ Some k
      → (i ≢ at) × (get_or keys i None ≡ Some k)
  left_out keys at i k within h =
      let other : i ≢ at = λ same.
      let gone : get_or (set keys at None) at None ≡ None = get_or-set_same keys at None None within in
      let moved : get_or (set keys at None) at None ≡ Some k =
      subst (λ j. get_or (set keys at None) j None ≡ Some k) same h in
      absurd (cc)
      in (other, before keys at i None k other h)

  module _ (keys tops left : List (Option K)) (below : List (Option ℕ)) (at : ℕ) (key : K)
      (piles : ArePiles keys tops below) (lifted : IsLifted tops left key (Some at)) where
    abbrev pub emptied : List (Option K)
    emptied = set keys at None

    -- the place that was taken was the top of its key
    was_top : IsTop keys piles.height key at
    was_top = piles.top at key lifted.was.here

    pub at_within : at < length keys
    at_within = held-within keys at key was_top.here

    below-taken : IsBelow keys piles.height key at (get_or below at None)
    below-taken = piles.next at key was_top.here

    -- a place that is still a top stays one
    top_stays : (i : ℕ) (k : K) → get_or left i None ≡ Some k → IsTop emptied piles.height k i
    top_stays i k h =
        let was = piles.top i k (lifted.kept i k h) in
        let other : i ≢ at = λ same.
        let moved : get_or keys at None ≡ Some k = subst (λ j. get_or keys j None ≡ Some k) same was.here in
        let key_here = was_top.here in
        let is : k ≡ key = one_key k key (sym moved ∙ key_here) in
        lifted.gone i (subst (λ q. get_or left i None ≡ Some q) is h)
        in
        record {
          here = after keys at i None k other was.here;
          highest = λ j hj. was.highest j (left_out keys at j k at_within hj).1;
        }

    apart_stays : (i j : ℕ) (k : K) → HasKey emptied k i → HasKey emptied k j → piles.height i ≡ piles.height j → i ≡ j
    apart_stays i j k hi hj same = piles.apart i j k (left_out keys at i k at_within hi).1
        (left_out keys at j k at_within hj).1 same

    -- what lies below another place isn't the one that was taken
    next_stays : (i : ℕ) (k : K) → i ≢ at → HasKey keys k i → (p : Option ℕ) → IsBelow keys piles.height k i p
        → IsBelow emptied piles.height k i p
    next_stays i k other has None lowest = λ j hj. lowest j (left_out keys at j k at_within hj).1
    next_stays i k other has (Some b) is =
        let apart : b ≢ at = λ same.
        let moved : get_or keys at None ≡ Some k = subst (λ j. get_or keys j None ≡ Some k) same is.0 in
        let key_here = was_top.here in
        let same_key : k ≡ key = one_key k key (sym moved ∙ key_here) in
        let up : piles.height at < piles.height i = subst (λ j. piles.height j < piles.height i) same is.1 in
        omega (arith, up, was_top.highest i (subst (λ q. get_or keys i None ≡ Some q) same_key has))
        in
        (after keys at b None k apart is.0, is.1, λ j hj lower. is.2 j (left_out keys at j k at_within hj).1 lower)

    -- the place below comes on top
    module _ (next : ℕ) (leads : get_or below at None ≡ Some next) where
      under : IsBelow keys piles.height key at (Some next)
      under = subst (λ p. IsBelow keys piles.height key at p) leads below-taken

      next_apart : next ≢ at
      next_apart = λ same. omega (arith, subst (λ j. piles.height j < piles.height at) same under.1)

      pub next-within : next < length left
      next-within = rw (lifted.len ∙ piles.tops_len) (held-within keys next key under.0)

      pub next-empty : get_or left next None ≡ None
      next-empty = none_of (get_or left next None) (λ k h.
          let was = piles.top next k (lifted.kept next k h) in
          let same_key : k ≡ key = one_key k key (sym was.here ∙ under.0) in
          lifted.gone next (subst (λ q. get_or left next None ≡ Some q) same_key h))

      next_top : IsTop emptied piles.height key next
      next_top = record {
        here = after keys at next None key next_apart under.0;
        highest = λ j hj.
            let has = left_out keys at j key at_within hj in
            let uneven : piles.height j ≢ piles.height at = λ same.
            has.0 (piles.apart j at key has.1 was_top.here same) in
            under.2 j has.1 (omega (arith, was_top.highest j has.1));
      }

      pub take_off : ArePiles emptied (set left next (Some key)) below
      take_off =
          let on : get_or (set left next (Some key)) next None ≡ Some key =
          get_or-set_same left next (Some key) None next-within in
          record {
            few = rw (length-set {A = Option K} keys at None) piles.few;
            tops_len = rw (length-set left next (Some key), length-set {A = Option K} keys at None) (lifted.len
                ∙ piles.tops_len);
            below_len = rw (length-set {A = Option K} keys at None) piles.below_len;
            height = piles.height;
            top = λ i k h. elim (cases_eq i next) [
              | inl same ↦
                  let is : key ≡ k = here left next key k next-within
                  (subst (λ m. get_or (set left next (Some key)) m None ≡ Some k) same h) in
                  rw same (subst (λ q. IsTop emptied piles.height q next) is next_top)
              | inr other ↦ top_stays i k (before left next i (Some key) k other h)
            ];
            topped = λ i k h absent. piles.topped i k (left_out keys at i k at_within h).1 (λ j hj.
                elim (lifted.rest j k hj) [
                  | inl stays ↦ absent j (after left next j (Some key) k (filled left next j k next-empty stays) stays)
                  | inr is ↦ absent next (on ∙ ap Some (sym is))
                ]);
            apart = apart_stays;
            next = λ i k h. let has = left_out keys at i k at_within h in
                next_stays i k has.0 has.1 (get_or below i None) (piles.next i k has.1);
          }

    -- nothing lay below
    pub take_last : get_or below at None ≡ None → ArePiles emptied left below
    take_last leads =
        let lowest : IsBelow keys piles.height key at None =
        subst (λ p. IsBelow keys piles.height key at p) leads below-taken in
        record {
          few = rw (length-set {A = Option K} keys at None) piles.few;
          tops_len = rw (length-set {A = Option K} keys at None) (lifted.len ∙ piles.tops_len);
          below_len = rw (length-set {A = Option K} keys at None) piles.below_len;
          height = piles.height;
          top = top_stays;
          topped = λ i k h absent.
              let has = left_out keys at i k at_within h in
              piles.topped i k has.1 (λ j hj. elim (lifted.rest j k hj) [
                | inl stays ↦ absent j stays
                | inr is ↦
                    let has_key : HasKey keys key i = subst (λ q. get_or keys i None ≡ Some q) is has.1 in
                    has.0 (piles.apart i at key has_key was_top.here
                    (omega (arith, lowest i has_key, was_top.highest i has_key)))
              ]);
          apart = apart_stays;
          next = λ i k h. let has = left_out keys at i k at_within h in
              next_stays i k has.0 has.1 (get_or below i None) (piles.next i k has.1);
        }

-- empty places at the end hold nothing, as what lay past the end before
pub get_or-widened : {X : Type 0} (xs : List (Option X)) (n i : ℕ)
    → get_or (xs ++ replicate n None) i None ≡ get_or xs i None
get_or-widened {X} xs n i =
    elim (cases_lt i (length xs)) [
      | inl inside ↦ get_or_append_left xs (replicate n None) None i inside
      | inr past ↦ get_or-append_right xs (replicate n None) (length xs) i None refl past
          ∙ get_or-none {X = X} n (i - length xs) ∙ sym (get_or_past xs i None past)
    ]

length-widened : {X : Type 0} (xs : List (Option X)) (n : ℕ) → length (xs ++ replicate n None) ≡ length xs + n
length-widened {X} xs n =
    let len : length (empty_places X n) ≡ n = length-replicate n None in
    let all = length-append xs (replicate n None) in
    omega arith

-- piles stay where places are added
pub piles-wider : {K : Type 0} (keys tops : List (Option K)) (below : List (Option ℕ)) (n : ℕ)
    → length keys + n ≤ 2 ^ 32
    → ArePiles keys tops below → ArePiles (keys ++ replicate n None) (tops ++ replicate n None) (below
    ++ replicate n None)
piles-wider {K} keys tops below n few piles =
    let old : (k : K) (i : ℕ) → HasKey (keys ++ replicate n None) k i
    → HasKey keys k i = λ k i h. sym (get_or-widened keys n i) ∙ h in
    let new : (k : K) (i : ℕ) → HasKey keys k i → HasKey (keys ++ replicate n None) k i = λ k i h.
    get_or-widened keys n i ∙ h in
    record {
      few = rw (length-widened keys n) few;
      tops_len = length-widened tops n ∙ ap (λ m. m + n) piles.tops_len ∙ sym (length-widened keys n);
      below_len = length-widened below n ∙ ap (λ m. m + n) piles.below_len ∙ sym (length-widened keys n);
      height = piles.height;
      top = λ i k h.
          let was = piles.top i k (sym (get_or-widened tops n i) ∙ h) in
          record { here = new k i was.here; highest = λ j hj. was.highest j (old k j hj) };
      topped = λ i k h absent. piles.topped i k (old k i h) (λ j hj. absent j (get_or-widened tops n j ∙ hj));
      apart = λ i j k hi hj same. piles.apart i j k (old k i hi) (old k j hj) same;
      next = λ i k h. rw (get_or-widened below n i) (below-wider piles.height k i (get_or below i None) old new
          (piles.next i k (old k i h)));
    }
  where
    below-wider : (height : ℕ → ℕ) (k : K) (i : ℕ) (p : Option ℕ)
        → ((q : K) (j : ℕ) → HasKey (keys ++ replicate n None) q j → HasKey keys q j)
        → ((q : K) (j : ℕ) → HasKey keys q j → HasKey (keys ++ replicate n None) q j) → IsBelow keys height k i p
        → IsBelow (keys ++ replicate n None) height k i p
    below-wider height k i None old new lowest = λ j h. lowest j (old k j h)
    below-wider height k i (Some b) old new is = (new k b is.0, is.1, λ j h lower. is.2 j (old k j h) lower)
