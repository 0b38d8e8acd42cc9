-- What holds of places, and of the pages that they hold, where one place is written.
use Rattle.std.proofs.Common.{◌≡◌, ◌≢◌, ℕ, ◌+◌, ◌<◌, Bool, true, false, cond, List, map, length, get_or, set, Option, Some, None, IsSome, is_some, arith, refl, ap, sym, subst, ◌∙◌, inl, inr, length-set, get_or-set_same, get_or-set_other}
use Rattle.std.specs.Prelude.{count_by, ◌==◌, ◌&&◌}
use Rattle.std.specs.List.{position_or_len}
use Rattle.std.proofs.lemmas.Bool.{cases_Bool, cases_eq, cases_lt}
use Rattle.std.proofs.lemmas.Bool.Decides.{nat_tests}
use Rattle.std.proofs.lemmas.List.{get_or_past, map-set, length-map}
use Rattle.std.proofs.Math.ListN.{get_or-map}
use Rattle.std.proofs.lemmas.List.Folds.{position_or_len-set}
use Rattle.std.proofs.lemmas.List.Sums.{position_or_len_is, fails_before_first, passes_at_first, sum_by-set}
use Rattle.fixed_places.specs.Recency.{IsTouched}
use Rattle.split_types.specs.declared.ids.Serial.{Serial}
use Rattle.split_types.specs.declared.buf.Buf.{Buf}
use Rattle.split_types.specs.declared.buf.Buf.TheVariants.{Page, Bitmap, Dir, Inode}
use Rattle.cause_set.specs.Tags.{same, use_in, held}
use Rattle.cause_set.proofs.TagLaws.{held-set}
use Rattle.page_cache.specs.declared.key.PageKey.{PageKey}
use Rattle.page_cache.specs.Keys.{key_of, buf_of}
use Rattle.page_cache.specs.Held.{Held, key_in}
use Rattle.page_cache.specs.Cached.{Cached, is_page, page_of, is_unsettled, tag_in}
use Rattle.page_cache.specs.Steps.{IsSlot}
use Rattle.page_cache.specs.Changes.{ChangesOnly, Touches, KeepsTouches, one_if}

-- ---- buffers and keys

same-nat : (x y : ℕ) → (x == y) ≡ true → x ≡ y
same-nat x y h = grind (arith, nat_tests)

nat-same : (x : ℕ) → (x == x) ≡ true
nat-same x = grind (arith, nat_tests)

both : (a b : Bool) → (a && b) ≡ true → (a ≡ true) × (b ≡ true)
both true b h = (refl, h)
both false b h = absurd (cc)

key-as : (key : PageKey) (s g : ℕ) → key.serial ≡ s → key.page ≡ g → key ≡ record { serial = s; page = g }
key-as key s g e f =
    let with_serial : ℕ → PageKey = λ n. record { serial = n; page = key.page } in
    let with_page : ℕ → PageKey = λ n. record { serial = s; page = n } in
    ap with_serial e ∙ ap with_page f

-- a place that holds the page of a buffer has its key
pub page-key : (b : Buf) (x : Option Held) → is_page b x ≡ true → key_in x ≡ key_of b
page-key b None h = absurd (cc)
page-key (Page s g) (Some p) h =
    let e = both (p.key.serial == s.0) (p.key.page == g) h in
    ap Some (key-as p.key s.0 g (same-nat p.key.serial s.0 e.0) (same-nat p.key.page g e.1))
page-key Bitmap (Some p) h = absurd (cc)
page-key (Dir k) (Some p) h = absurd (cc)
page-key (Inode k) (Some p) h = absurd (cc)

pub key-page : (s : Serial) (g : ℕ) (x : Option Held) → key_in x ≡ Some record { serial = s.0; page = g }
    → is_page (Page s g) x ≡ true
key-page s g None h = absurd (cc)
key-page s g (Some p) h =
    let key : PageKey = record { serial = s.0; page = g } in
    let e : p.key ≡ key = cc in
    rw (ap (λ (k : PageKey). k.serial) e, ap (λ (k : PageKey). k.page) e, nat-same s.0, nat-same g) refl

pub page-buf : (b : Buf) (p : Held) → is_page b (Some p) ≡ true → buf_of p.key ≡ b
page-buf (Page s g) p h =
    let e = both (p.key.serial == s.0) (p.key.page == g) h in
    ap buf_of (key-as p.key s.0 g (same-nat p.key.serial s.0 e.0) (same-nat p.key.page g e.1))
page-buf Bitmap p h = absurd (cc)
page-buf (Dir k) p h = absurd (cc)
page-buf (Inode k) p h = absurd (cc)

pub page-own : (p : Held) → is_page (buf_of p.key) (Some p) ≡ true
page-own p = rw (nat-same p.key.serial, nat-same p.key.page) refl

pub page-some : (b : Buf) (x : Option Held) → is_page b x ≡ true → is_some x ≡ true
page-some b None h = h
page-some b (Some p) h = refl

-- a place holds one page at most
pub page-one : (b k : Buf) (x : Option Held) → is_page b x ≡ true → is_page k x ≡ true → k ≡ b
page-one b k None h j = absurd (cc)
page-one b k (Some p) h j = sym (page-buf k p j) ∙ page-buf b p h

pub page-other : (b k : Buf) (x : Option Held) → is_page b x ≡ is_some x → k ≢ b → is_page k x ≡ false
page-other b k None own apart = refl
page-other b k (Some p) own apart =
    elim (cases_Bool (is_page k (Some p))) [
      | inl is ↦ absurd (apart (page-one b k (Some p) own is))
      | inr other ↦ other
    ]

-- ---- where a page is

pub page-absent : (b : Buf) (places : List (Option Held)) → ((i : ℕ) → is_page b (get_or places i None) ≡ false)
    → get_or places (position_or_len (is_page b) places) None ≡ None
page-absent b places none =
    let at = position_or_len (is_page b) places in
    elim (cases_lt at (length places)) [
      | inl inside ↦ let is = passes_at_first (is_page b) places None inside in let no = none at in absurd (cc)
      | inr past ↦ get_or_past places at None past
    ]

pub absent-page : (b : Buf) (places : List (Option Held))
    → get_or places (position_or_len (is_page b) places) None ≡ None
    → (i : ℕ) → is_page b (get_or places i None) ≡ false
absent-page b places none i =
    let at = position_or_len (is_page b) places in
    elim (cases_Bool (is_page b (get_or places i None))) [
      | inl is ↦
          elim (cases_lt i (length places)) [
            | inl inside ↦
                elim (cases_lt i at) [
                  | inl before ↦ let no = fails_before_first (is_page b) places i None before in absurd (cc)
                  | inr behind ↦
                      let h = passes_at_first (is_page b) places None (omega arith) in
                      let no : is_page b (get_or places at None) ≡ false = rw none refl in
                      absurd (cc)
                ]
            | inr past ↦
                let no : is_page b (get_or places i None) ≡ false = rw (get_or_past places i None past) refl in
                absurd (cc)
          ]
      | inr other ↦ other
    ]

pub some-inside : (places : List (Option Held)) (i : ℕ) → IsSome (get_or places i None) → i < length places
some-inside places i some =
    elim (cases_lt i (length places)) [
      | inl inside ↦ inside
      | inr past ↦ let no : get_or places i None ≡ None = get_or_past places i None past in
          let none : IsSome {T = Held} None = rw no at some in absurd (cc)
    ]

pub slot-here : (b : Buf) (places : List (Option Held)) (at : ℕ) (x : Option Held) → at < length places
    → get_or places at None ≡ x → is_page b x ≡ true
    → ((i : ℕ) → is_page b (get_or places i None) ≡ true → i ≡ at) → IsSlot places b at x
slot-here b places at x within here is only =
    let place : position_or_len (is_page b) places ≡ at =
    position_or_len_is (is_page b) places at None (omega arith)
    (λ k before.
    elim (cases_Bool (is_page b (get_or places k None))) [
      | inl also ↦ let e = only k also in absurd (omega arith)
      | inr other ↦ other
    ])
    (λ inside. rw here is)
    in
    record {
      within = within;
      here = here;
      page = rw (place, here) refl;
      own = is ∙ sym (page-some b x is);
      only = only;
    }

pub slot-free : (b : Buf) (places : List (Option Held)) (at : ℕ) → at < length places → get_or places at None ≡ None
    → get_or places (position_or_len (is_page b) places) None ≡ None → IsSlot places b at None
slot-free b places at within empty none =
    record {
      within = within;
      here = empty;
      page = none;
      own = refl;
      only = λ i is. let no = absent-page b places none i in absurd (cc);
    }

-- where a page is held, its place is the first that holds it
pub slot-place : (b : Buf) (places : List (Option Held)) (at : ℕ) (x : Option Held) → IsSlot places b at x → IsSome x
    → position_or_len (is_page b) places ≡ at
slot-place b places at x slot some =
    let first = position_or_len (is_page b) places in
    let held : IsSome (get_or places first None) = rw slot.page some in
    slot.only first (passes_at_first (is_page b) places None (some-inside places first held))

-- ---- a place is written

module _ (b : Buf) (places : List (Option Held)) (at : ℕ) (x y : Option Held) (slot : IsSlot places b at x)
    (own : is_page b y ≡ is_some y) where
  pub slot-set : IsSlot (set places at y) b at y
  slot-set =
      let within : at < length (set places at y) = rw (length-set places at y) slot.within in
      let here : get_or (set places at y) at None ≡ y = get_or-set_same places at y None slot.within in
      let only : (i : ℕ) → is_page b (get_or (set places at y) i None) ≡ true → i ≡ at =
      λ i is.
      elim (cases_eq i at) [
        | inl e ↦ e
        | inr apart ↦ slot.only i (ap (is_page b) (sym (get_or-set_other places at i y None apart)) ∙ is)
      ]
      in
      elim (cases_Bool (is_page b y)) [
        | inl is ↦ slot-here b (set places at y) at y within here is only
        | inr empty ↦
            let none : (i : ℕ) → is_page b (get_or (set places at y) i None) ≡ false =
            λ i.
            elim (cases_Bool (is_page b (get_or (set places at y) i None))) [
              | inl is ↦ let e = only i is in let f : is_page b (get_or (set places at y) i None) ≡ false =
                  rw (e, here) empty in absurd (cc)
              | inr not_it ↦ not_it
            ]
            in
            let gone : y ≡ None = none-from y (sym own ∙ empty) in
            let as_slot : Option Held → Type 0 = λ z. IsSlot (set places at y) b at z in
            subst as_slot (sym gone) (slot-free b (set places at y) at within (here
            ∙ gone) (page-absent b (set places at y) none))
      ]
    where
      none-from : (z : Option Held) → is_some z ≡ false → z ≡ None
      none-from None h = refl
      none-from (Some p) h = absurd (cc)

  -- no other page moves
  pub other-place : (k : Buf) → k ≢ b → position_or_len (is_page k) (set places at y)
      ≡ position_or_len (is_page k) places
  other-place k apart =
      position_or_len-set (is_page k) places at y None
      (page-other b k y own apart ∙ sym (ap (is_page k) slot.here ∙ page-other b k x slot.own apart))

  pub other-page : (k : Buf) → k ≢ b
      → get_or (set places at y) (position_or_len (is_page k) (set places at y)) None
      ≡ get_or places (position_or_len (is_page k) places) None
  other-page k apart =
      let first = position_or_len (is_page k) places in
      let elsewhere : first ≢ at =
      λ e.
      let inside : first < length places = rw e slot.within in
      let is = passes_at_first (is_page k) places None inside in
      let no : is_page k (get_or places first None) ≡ false = rw (e, slot.here) (page-other b k x slot.own apart) in
      absurd (cc)
      in
      rw (other-place k apart) (get_or-set_other places at first y None elsewhere)

-- what is counted of places
abbrev one : (Option Held → Bool) → Option Held → ℕ
one test x = cond (test x) 1 0

pub count-set : (test : Option Held → Bool) (places : List (Option Held)) (at : ℕ) (x y : Option Held)
    → at < length places
    → get_or places at None ≡ x
    → count_by test (set places at y) + one_if (test x) ≡ count_by test places + one_if (test y)
count-set test places at x y within here = rw (← here) (sum_by-set (one test) places at y None within)

pub tags-set : (places : List (Option Held)) (at : ℕ) (x y : Option Held) (n : ℕ) → at < length places
    → get_or places at None ≡ x
    → held same (map tag_in (set places at y)) n + use_in same (tag_in x) n
    ≡ held same (map tag_in places) n + use_in same (tag_in y) n
tags-set places at x y n within here =
    let tags = map tag_in places in
    let inside : at < length tags = rw (length-map places tag_in) within in
    let read : get_or tags at None ≡ tag_in x = get_or-map tag_in places at None ∙ ap tag_in here in
    rw (map-set tag_in places at y, ← read) (held-set same tags at (tag_in y) n inside)

-- all that is said of one page that changes
pub slot-changes : (old new : Cached) (b : Buf) (at : ℕ) (x y : Option Held) → IsSlot old.places b at x
    → is_page b y ≡ is_some y → new.places ≡ set old.places at y → new.limit ≡ old.limit → ChangesOnly old new b y
slot-changes old new b at x y slot own e limit =
    record {
      page = rw e ((slot-set b old.places at x y slot own).page);
      others = λ k apart. rw e (other-page b old.places at x y slot own k apart);
      count = rw (e, slot.page) (count-set is_some old.places at x y slot.within slot.here);
      unsettled = rw (e, slot.page) (count-set is_unsettled old.places at x y slot.within slot.here);
      tags = λ n. rw (e, slot.page) (tags-set old.places at x y n slot.within slot.here);
      limit = limit;
    }

-- ---- touches

-- where a page is that is held after a place was written
pub held-apart : (b k : Buf) (places : List (Option Held)) (at : ℕ) (x : Option Held) → IsSlot places b at x → k ≢ b
    → IsSome (get_or places (position_or_len (is_page k) places) None) → position_or_len (is_page k) places ≢ at
held-apart b k places at x slot apart some e =
    let first = position_or_len (is_page k) places in
    let is = passes_at_first (is_page k) places None (some-inside places first some) in
    let no : is_page k (get_or places first None) ≡ false = rw (e, slot.here) (page-other b k x slot.own apart) in
    absurd (cc)

pub slot-touches : (old new : Cached) (b : Buf) (at : ℕ) (x y : Option Held) → IsSlot old.places b at x
    → is_page b y ≡ is_some y → IsSome y → new.places ≡ set old.places at y → length old.touches ≡ length old.places
    → IsTouched old.touches new.touches at → Touches old new b
slot-touches old new b at x y slot own some e len touched =
    let after : IsSlot new.places b at y = rw e (slot-set b old.places at x y slot own) in
    let here : position_or_len (is_page b) new.places ≡ at = slot-place b new.places at y after some in
    let same_len : length new.places ≡ length old.touches = ap length e ∙ length-set old.places at y ∙ sym len in
    let within : (k : Buf) → IsSome (page_of new k) → position_or_len (is_page k) new.places < length old.touches =
    λ k held. rw (← same_len) (some-inside new.places (position_or_len (is_page k) new.places) held)
    in
    let elsewhere : (k : Buf) → k ≢ b → IsSome (page_of new k) → position_or_len (is_page k) new.places ≢ at =
    λ k apart held. held-apart b k new.places at y after apart held
    in
    let stays : (k : Buf) → k ≢ b → position_or_len (is_page k) new.places ≡ position_or_len (is_page k) old.places =
    λ k apart. rw e (other-place b old.places at x y slot own k apart)
    in
    record {
      last = λ k apart held. rw here (touched.last (position_or_len (is_page k) new.places) (within k held)
          (elsewhere k apart held));
      order = λ j k j_apart k_apart j_held k_held before.
          touched.order (position_or_len (is_page j) new.places) (position_or_len (is_page k) new.places)
          (within j j_held) (within k k_held)
          (elsewhere j j_apart j_held) (elsewhere k k_apart k_held) (rw (stays j j_apart, stays k k_apart) before);
    }

pub slot-keeps : (old new : Cached) (b : Buf) (at : ℕ) (x y : Option Held) → IsSlot old.places b at x
    → is_page b y ≡ is_some y → new.places ≡ set old.places at y → new.touches ≡ old.touches → KeepsTouches old new
slot-keeps old new b at x y slot own e touches k was is =
    let after : IsSlot new.places b at y = rw e (slot-set b old.places at x y slot own) in
    elim (cases_Bool (is_page k x)) [
      | inl here ↦
          let k_is : k ≡ b = page-one b k x (slot.own ∙ page-some k x here) here in
          let some : IsSome y = rw (← after.page, ← k_is) is in
          let had : IsSome x = rw (← slot.page, ← k_is) was in
          rw (touches, k_is, slot-place b new.places at y after some, slot-place b old.places at x slot had) refl
      | inr elsewhere ↦
          elim (cases_Bool (is_page k y)) [
            | inl there ↦
                let k_is : k ≡ b = page-one b k y (own ∙ page-some k y there) there in
                let had : IsSome x = rw (← slot.page, ← k_is) was in
                let also : is_page k x ≡ true = rw k_is (slot.own ∙ had) in
                absurd (cc)
            | inr neither ↦
                let stays : position_or_len (is_page k) new.places ≡ position_or_len (is_page k) old.places =
                rw e (position_or_len-set (is_page k) old.places at y None (neither
                ∙ sym (ap (is_page k) slot.here ∙ elsewhere)))
                in
                rw (touches, stays) refl
          ]
    ]
