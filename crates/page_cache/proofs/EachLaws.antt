-- What holds where each page is changed by a rule that keeps its key.
use Rattle.std.proofs.Common.{◌≡◌, ◌≢◌, ℕ, suc, ◌<◌, Bool, true, false, List, [], ◌∷◌, map, length, get_or, set, Option, Some, None, IsSome, is_some, arith, refl, ap, sym, ◌∙◌, inl, inr}
use Rattle.std.specs.Prelude.{count_by}
use Rattle.std.specs.Option.{option_map}
use Rattle.std.specs.List.{position_or_len}
use Rattle.std.proofs.lemmas.Bool.{cases_Bool}
use Rattle.std.proofs.lemmas.Bool.Decides.{nat_tests}
use Rattle.std.proofs.Math.ListN.{get_or-map}
use Rattle.std.proofs.Math.Seq.{map-set_same}
use Rattle.split_types.specs.declared.ids.Pid.{Pid}
use Rattle.split_types.specs.declared.buf.Buf.{Buf}
use Rattle.page_cache.specs.Held.{Held}
use Rattle.page_cache.specs.Cached.{Cached, is_page, is_unsettled, pin_in, tag_in, tags_in}
use Rattle.page_cache.specs.Changes.{ChangesEach, unpinned, is_pinned_by, one_if}
use Rattle.page_cache.proofs.ListLaws.{count-map, count-same}
use Rattle.page_cache.proofs.SlotLaws.{count-set}

-- what becomes of each place where a process pins nothing any more
abbrev pub all_unpinned : Pid → List (Option Held) → List (Option Held)
all_unpinned by places = map (option_map (unpinned by)) places

-- how many places a process pins
abbrev pub is_pinning : Pid → Option Held → Bool
is_pinning by x = is_pinned_by by (pin_in x)

abbrev pub pinning : Pid → List (Option Held) → ℕ
pinning by places = count_by (is_pinning by) places

page-same : (by : Pid) (k : Buf) (x : Option Held) → is_page k (option_map (unpinned by) x) ≡ is_page k x
page-same by k None = refl
page-same by k (Some p) = refl

place-same : (by : Pid) (k : Buf) (places : List (Option Held))
    → position_or_len (is_page k) (all_unpinned by places) ≡ position_or_len (is_page k) places
place-same by k [] = refl
place-same by k (x ∷ xs) = rw (page-same by k x, place-same by k xs) refl

tags-same : (by : Pid) (places : List (Option Held)) → map tag_in (all_unpinned by places) ≡ map tag_in places
tags-same by [] = refl
tags-same by (x ∷ xs) = let here : tag_in (option_map (unpinned by) x) ≡ tag_in x = one x in
    rw (here, tags-same by xs) refl
  where
    one : (y : Option Held) → tag_in (option_map (unpinned by) y) ≡ tag_in y
    one None = refl
    one (Some p) = refl

held-one : (by : Pid) (x : Option Held) → is_some (option_map (unpinned by) x) ≡ is_some x
held-one by None = refl
held-one by (Some p) = refl

unsettled-one : (by : Pid) (x : Option Held) → is_unsettled (option_map (unpinned by) x) ≡ is_unsettled x
unsettled-one by None = refl
unsettled-one by (Some p) = refl

pub unpins : (old new : Cached) (by : Pid) → new.places ≡ all_unpinned by old.places → new.touches ≡ old.touches
    → new.limit ≡ old.limit
    → ChangesEach old new (λ k. unpinned by)
unpins old new by places touches limit =
    record {
      pages = λ k. rw (places, place-same by k old.places)
          (get_or-map (option_map (unpinned by)) old.places (position_or_len (is_page k) old.places) None);
      count = rw places (count-map is_some (option_map (unpinned by)) old.places
          ∙ count-same (λ x. is_some (option_map (unpinned by) x)) is_some old.places (held-one by));
      unsettled = rw places (count-map is_unsettled (option_map (unpinned by)) old.places
          ∙ count-same (λ x. is_unsettled (option_map (unpinned by) x)) is_unsettled old.places (unsettled-one by));
      limit = limit;
      touches = λ k was is. rw (places, touches, place-same by k old.places) refl;
    }

pub unpins-tags : (old new : Cached) (by : Pid) → new.places ≡ all_unpinned by old.places → tags_in new ≡ tags_in old
unpins-tags old new by places = rw places (tags-same by old.places)

-- ---- one place after another

-- where a process pins nothing, nothing changes
pub unpinned-all : (by : Pid) (places : List (Option Held)) → ((i : ℕ) → is_pinning by (get_or places i None) ≡ false)
    → all_unpinned by places ≡ places
unpinned-all by [] none = refl
unpinned-all by (x ∷ xs) none =
    let here : option_map (unpinned by) x ≡ x = one x (none 0) in
    let rest : all_unpinned by xs ≡ xs = unpinned-all by xs (λ i. none (suc i)) in
    rw (here, rest) refl
  where
    one : (y : Option Held) → is_pinning by y ≡ false → option_map (unpinned by) y ≡ y
    one None h = refl
    one (Some p) h = rw h refl

pinned-by : (by : Pid) (x : Option Pid) → is_pinned_by by x ≡ true → x ≡ Some by
pinned-by by None h = absurd (cc)
pinned-by by (Some other) h =
    let e : other.0 ≡ by.0 = grind (arith, nat_tests) in
    let as_pid : ℕ → Option Pid = λ n. let pid : Pid = record { 0 = n } in Some pid in
    ap as_pid e

-- what the guide says of a process that pins nothing
pub none-pinned : (by : Pid) (places : List (Option Held)) (pins : List (Option Pid)) → pins ≡ map pin_in places
    → ((i : ℕ) → get_or pins i None ≢ Some by) → (i : ℕ) → is_pinning by (get_or places i None) ≡ false
none-pinned by places pins is none i =
    elim (cases_Bool (is_pinning by (get_or places i None))) [
      | inl here ↦
          absurd
          (none i (ap (λ pins. get_or pins i None) is ∙ get_or-map pin_in places i None
          ∙ pinned-by by (pin_in (get_or places i None)) here))
      | inr other ↦ other
    ]

pub pinned-found : (by : Pid) (places : List (Option Held)) (pins : List (Option Pid)) (at : ℕ)
    → pins ≡ map pin_in places
    → get_or pins at None ≡ Some by → is_pinning by (get_or places at None) ≡ true
pinned-found by places pins at is found =
    let here : pin_in (get_or places at None) ≡ Some by = sym (get_or-map pin_in places at None)
    ∙ sym (ap (λ pins. get_or pins at None) is) ∙ found in
    rw here (grind (arith, nat_tests))

module _ (by : Pid) (places : List (Option Held)) (at : ℕ) (p : Held) (here : get_or places at None ≡ Some p)
    (pinned : is_pinning by (Some p) ≡ true) where
  pub unpin-more : all_unpinned by (set places at (Some record p { state = record p.state { pin = None } }))
      ≡ all_unpinned by places
  unpin-more =
      map-set_same (option_map (unpinned by)) places at (Some record p { state = record p.state { pin = None } }) None
      (let as_before : option_map (unpinned by) (Some p) ≡ Some record p { state = record p.state { pin = None } } =
      rw pinned refl in
      sym (ap (option_map (unpinned by)) here ∙ as_before))

  pub unpin-fewer : at < length places
      → pinning by (set places at (Some record p { state = record p.state { pin = None } })) < pinning by places
  unpin-fewer within =
      let sums = count-set (is_pinning by) places at (Some p) (Some record p { state = record p.state { pin = None } })
      within here in
      let was : one_if (is_pinning by (Some p)) ≡ 1 = rw pinned refl in
      omega (arith, sums, was)

pub pinning-some : (by : Pid) (x : Option Held) → is_pinning by x ≡ true → IsSome x
pinning-some by None h = absurd (cc)
pinning-some by (Some p) h = refl
