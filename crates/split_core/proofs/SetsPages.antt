-- The tags of the pages in the cache are those of the known pages with open dirtyings.
use Rattle.std.proofs.Common.{◌≡◌, ℕ, zero, suc, ◌+◌, ◌≤◌, List, [], ◌∷◌, length, map, set, get_or, filter, Bool, true, false, cond, ◌==◌, count_by, Option, Some, None, is_some, refl, ap, sym, subst, ◌∙◌, arith, inl, inr, if◌then◌else◌}
use Rattle.std.specs.Prelude.{slice_get}
use Rattle.std.specs.List.{list_any, position_or_len}
use Rattle.std.proofs.Math.ListN.{get_or-map}
use Rattle.std.proofs.lemmas.Bool.{cases_Bool, cases_lt, both_ways, cond-true, cond-false, eq-eqb, eqb-true}
use Rattle.std.proofs.lemmas.List.{get_or_past, get_or-set_other}
use Rattle.std.proofs.lemmas.List.Sums.{passes_at_first, sum_by-set}
use Rattle.std.proofs.lemmas.Option.{same_Some}
use Rattle.split_types.specs.declared.ids.Serial.{Serial}
use Rattle.split_types.specs.declared.buf.Buf.{Buf}
use Rattle.split_types.specs.declared.buf.Buf.TheVariants.{Page}
use Rattle.split_types.specs.declared.request.ReqKind.{ReqKind}
use Rattle.split_types.specs.declared.request.ReqKind.TheVariants.{Read, Pages, Log, Commit, Home, Clear}
use Rattle.split_types.specs.declared.request.Request.{Request}
use Rattle.split_types.specs.declared.workload.Workload.{Workload}
use Rattle.split_types.specs.declared.event.Event.{Event}
use Rattle.split_types.specs.declared.event.Event.TheVariants.{Put, Add}
use Rattle.split_types.specs.History.{◌▹◌}
use Rattle.split_types.specs.Hooks.{same_buf}
use Rattle.split_types.specs.OpenDirtyings.{open_at}
use Rattle.split_types.specs.Parents.{pages_of}
use Rattle.split_types.specs.Sets.{union_of}
use Rattle.split_types.specs.Blame.{blame}
use Rattle.split_types.specs.Pages.{is_dirty}
use Rattle.split_types.specs.HeldPages.{is_held, held_pages, pages_moved, with_page, with_pages, known_pages}
use Rattle.split_types.specs.Accepted.{IsAccepted}
use Rattle.split_types.specs.Legal.{IsLegal}
use Rattle.split_types.proofs.Shared.{causes-one, dirty_are_open, filter_there, in_filter, list_any_here, find_some, pages_are_known, same_buf-is}
use Rattle.cause_set.specs.Tags.{Tags, same, use_in, held, set_in}
use Rattle.cause_set.proofs.TagLaws.{one_use-same}
use Rattle.page_cache.specs.Keys.{buf_of}
use Rattle.page_cache.specs.Held.{Held}
use Rattle.page_cache.specs.Cached as cached
use Rattle.page_cache.specs.Cached.{Cached}
use Rattle.split_core.specs.Pages.{CacheStands}
use Rattle.split_core.proofs.JournalTagsKept.{blamed}
use Rattle.split_core.proofs.PageTags.{tag_held}
use Rattle.split_core.proofs.SetsLists.{blamed_some, blamed_is, held_place}

-- ---- known pages are pages
-- the buffer is a page of a file
abbrev pub IsAPage : Buf → Type 0
IsAPage b = (s : Serial) × (g : ℕ) × (b ≡ Page s g)

abbrev ArePages : List Buf → Type 0
ArePages bufs = (i : ℕ) (b : Buf) → slice_get bufs i ≡ Some b → IsAPage b

one_more : (b : Buf) (bufs : List Buf) → IsAPage b → ArePages bufs → ArePages (b ∷ bufs)
one_more b bufs page old zero c at = subst IsAPage (same_Some b c at) page
one_more b bufs page old (suc i) c at = old i c at

with_one : (b : Buf) (bufs : List Buf) → IsAPage b → ArePages bufs → ArePages (with_page b bufs)
with_one b bufs page old = by_test (list_any (same_buf b) bufs)
  where
    by_test : (t : Bool) → ArePages (if t then bufs else b ∷ bufs)
    by_test true = old
    by_test false = one_more b bufs page old

with_all : (others bufs : List Buf) → ArePages others → ArePages bufs → ArePages (with_pages others bufs)
with_all [] bufs new old = old
with_all (b ∷ others) bufs new old =
    with_one b (with_pages others bufs) (new 0 b refl) (with_all others bufs (λ i c at. new (suc i) c at) old)

run_pages : (s : Serial) (g n : ℕ) → ArePages (pages_of s g n)
run_pages s g zero i b at = absurd (cc)
run_pages s g (suc n) zero b at = (s, g, sym (same_Some (Page s g) b at))
run_pages s g (suc n) (suc i) b at = run_pages s (g + 1) n i b at

moved_pages : (r : Request) → ArePages (pages_moved r)
moved_pages r = by_kind r.kind refl
  where
    by_kind : (k : ReqKind) → r.kind ≡ k → ArePages (pages_moved r)
    by_kind (Read p s g) is =
        rw is (λ i b at. one_more (Page s g) [] (s, g, refl) (λ j c none. absurd (cc)) i b at)
    by_kind (Pages s g) is = rw is (run_pages s g r.n)
    by_kind (Log t) is = rw is (λ i b at. absurd (cc))
    by_kind (Commit t) is = rw is (λ i b at. absurd (cc))
    by_kind (Home t) is = rw is (λ i b at. absurd (cc))
    by_kind (Clear t) is = rw is (λ i b at. absurd (cc))

pub known_are_pages : (h : List Event) → ArePages (known_pages h)
known_are_pages [] = λ i b at. absurd (cc)
known_are_pages (h ▹ Put by s g from to fill) = with_one (Page s g) (known_pages h) (s, g, refl) (known_are_pages h)
known_are_pages (h ▹ Add by r) = with_all (pages_moved r) (known_pages h) (moved_pages r) (known_are_pages h)
known_are_pages (h ▹ e) = known_are_pages h

-- ---- which places hold something
-- a place that is emptied counts no more
emptied : (xs : List (Option Held)) (k : ℕ) → is_some (get_or xs k None) ≡ true
    → count_by is_some (set xs k None) + 1 ≡ count_by is_some xs
emptied xs k some = elim (cases_lt k (length xs)) [
  | inl inside ↦ (let here : ◌≡◌ {A = ℕ} (cond (is_some (get_or xs k None)) 1 0) 1 = ap (λ t. cond t 1 0) some in
      omega (arith, here, sum_by-set (λ (x : Option Held). cond (is_some x) 1 0) xs k None None inside))
  | inr past ↦
      absurd (let none : is_some (get_or xs k None) ≡ false = ap is_some (get_or_past xs k None past) in cc)
]

-- things that stand in different places that hold something are at most as many as these
places_enough : (place : Buf → ℕ) (p : Buf → Bool) (bs : List Buf) (xs : List (Option Held))
    → ((i j : ℕ) (b : Buf) → slice_get bs i ≡ Some b → slice_get bs j ≡ Some b → i ≡ j)
    → ((i j : ℕ) (b c : Buf) → slice_get bs i ≡ Some b → slice_get bs j ≡ Some c → p b ≡ true → p c ≡ true
    → place b ≡ place c → b ≡ c)
    → ((i : ℕ) (b : Buf) → slice_get bs i ≡ Some b → p b ≡ true → is_some (get_or xs (place b) None) ≡ true)
    → length (filter p bs) ≤ count_by is_some xs
places_enough place p [] xs once apart some = omega arith
places_enough place p (b ∷ bs) xs once apart some = elim (cases_Bool (p b)) [
  | inr past ↦
      (let less : length (filter p (b ∷ bs)) ≡ length (filter p bs) =
      ap length (cond-false (p b) (b ∷ filter p bs) (filter p bs) past) in
      omega (arith, less, places_enough place p bs xs once' apart' (λ i c at. some (suc i) c at)))
  | inl here ↦
      (let more : length (filter p (b ∷ bs)) ≡ length (b ∷ filter p bs) =
      ap length (cond-true (p b) (b ∷ filter p bs) (filter p bs) here) in
      omega (
        arith,
        more,
        emptied xs (place b) (some 0 b refl here),
        places_enough place p bs (set xs (place b) None) once' apart'
            (λ i c at passes.
            ap is_some (get_or-set_other xs (place b) (place c) None None
            (λ (e : place c ≡ place b). first i c at passes here e))
            ∙ some (suc i) c at passes),
      ))
]
  where
    once' : (i j : ℕ) (c : Buf) → slice_get bs i ≡ Some c → slice_get bs j ≡ Some c → i ≡ j
    once' i j c at there = omega (arith, once (suc i) (suc j) c at there)

    apart' : (i j : ℕ) (c d : Buf) → slice_get bs i ≡ Some c → slice_get bs j ≡ Some d → p c ≡ true → p d ≡ true
        → place c ≡ place d → c ≡ d
    apart' i j c d at there = apart (suc i) (suc j) c d at there

    first : (i : ℕ) (c : Buf) → slice_get bs i ≡ Some c → p c ≡ true → p b ≡ true → place c ≡ place b → ⊥
    first i c at passes here alike =
        let is : c ≡ b = apart (suc i) 0 c b at refl passes here alike in
        omega (arith, once (suc i) 0 b (at ∙ ap Some is) refl)

-- the page that a place holds has the place's key
found_key : (c : Cached) (b : Buf) → is_some (cached.page_of c b) ≡ true
    → cached.is_page b (cached.page_of c b) ≡ true
found_key c b some =
    let at = position_or_len (cached.is_page b) c.places in
    elim (cases_lt at (length c.places)) [
      | inl inside ↦ passes_at_first (cached.is_page b) c.places None inside
      | inr past ↦
          absurd (let none : is_some (cached.page_of c b) ≡ false = ap is_some (get_or_past c.places at None past) in cc)
    ]

page_key : (b c : Buf) (x : Option Held) → cached.is_page b x ≡ true → cached.is_page c x ≡ true → b ≡ c
page_key b c None first second = absurd (cc)
page_key b c (Some p) first second =
    sym (same_buf-is (buf_of p.key) b first) ∙ same_buf-is (buf_of p.key) c second

module _ (w : Workload) (c : Cached) (tags : Tags) (h : List Event) (accepted : IsAccepted w) (legal : IsLegal w h)
    (stands : CacheStands w c tags h) where
  held_there : (i : ℕ) (b : Buf) → slice_get (known_pages h) i ≡ Some b → is_held w h b ≡ true
      → is_some (cached.page_of c b) ≡ true
  held_there i b at is =
      let page = known_are_pages h i b at in
      let e = page.2 in
      ap (λ x. is_some (cached.page_of c x)) e ∙ stands.held_are page.0 page.1 ∙ ap (is_held w h) (sym e) ∙ is

  places_apart : (i j : ℕ) (a b : Buf) → slice_get (known_pages h) i ≡ Some a → slice_get (known_pages h) j ≡ Some b
      → is_held w h a ≡ true → is_held w h b ≡ true → cached.place_of c a ≡ cached.place_of c b → a ≡ b
  places_apart i j a b at there first second alike =
      let x = cached.page_of c a in
      let here : cached.page_of c b ≡ x = ap (λ k. get_or c.places k None) (sym alike) in
      page_key a b x (found_key c a (held_there i a at first))
      (ap (cached.is_page b) (sym here) ∙ found_key c b (held_there j b there second))

  -- in each place that holds something a page of the history is held
  named : (k : ℕ) → is_some (get_or c.places k None) ≡ true
      → list_any (λ b. cached.place_of c b == k) (held_pages w h) ≡ true
  named k some = elim (cases_Bool (list_any (λ b. cached.place_of c b == k) (held_pages w h))) [
    | inl there ↦ there
    | inr none ↦
        absurd (omega (
          arith,
          stands.held_counted,
          emptied c.places k some,
          places_enough (cached.place_of c) (is_held w h) (known_pages h) (set c.places k None)
              (λ i j b. pages_are_known.once h i j b) places_apart
              (λ i b at is.
              ap is_some (get_or-set_other c.places k (cached.place_of c b) None None
              (λ (e : cached.place_of c b ≡ k). elsewhere none i b at is e))
              ∙ held_there i b at is),
        ))
  ]
    where
      elsewhere : list_any (λ b. cached.place_of c b == k) (held_pages w h) ≡ false → (i : ℕ) (b : Buf)
          → slice_get (known_pages h) i ≡ Some b → is_held w h b ≡ true → cached.place_of c b ≡ k → ⊥
      elsewhere none i b at is here =
          let there = in_filter (is_held w h) (known_pages h) i b at is in
          both_ways (list_any (λ b. cached.place_of c b == k) (held_pages w h)) none
          (list_any_here (λ b. cached.place_of c b == k) (held_pages w h) there.0 b there.1
          (eq-eqb (cached.place_of c b) k here))

  -- ---- both ways
  tagged : (x : Option ℕ) → is_some x ≡ true → (n : ℕ) × (x ≡ Some n)
  tagged None some = absurd (cc)
  tagged (Some n) some = (n, refl)

  members_are : (s : Serial) (g n : ℕ) → cached.tag_in (cached.page_of c (Page s g)) ≡ Some n
      → tags.members n ≡ union_of (map (blame h) (open_at h (Page s g)))
  members_are s g n is =
      sym (ap (set_in same tags) is) ∙ stands.causes_are s g ∙ causes-one h (Page s g)

  pub page_used : (s : Serial) (g : ℕ) (set : List ℕ) → blamed h (open_at h (Page s g)) ≡ Some set
      → (n : ℕ) × (1 ≤ held same (cached.tags_in c) n) × (tags.members n ≡ set)
  page_used s g set is =
      let some = blamed_some h (open_at h (Page s g)) set is in
      let dirty : is_dirty w h (Page s g) ≡ true = dirty_are_open w h s g accepted legal ∙ some in
      let tag = tagged (cached.tag_in (cached.page_of c (Page s g))) (stands.dirty_are s g ∙ dirty) in
      let below : use_in same (Some tag.0) tag.0 ≤ held same (cached.tags_in c) tag.0 =
      subst (λ (x : Option ℕ). use_in same x tag.0 ≤ held same (cached.tags_in c) tag.0) tag.1
      (tag_held c (Page s g) tag.0) in (
        tag.0,
        omega (arith, below, one_use-same tag.0),
        same_Some (tags.members tag.0) set
            (ap Some (members_are s g tag.0 tag.1) ∙ sym (blamed_is h (open_at h (Page s g)) some) ∙ is),
      )

  -- a tag that a place holds is that of a known page
  named_page : (k n : ℕ) → cached.tag_in (get_or c.places k None) ≡ Some n
      → (i : ℕ) × (b : Buf) × (slice_get (known_pages h) i ≡ Some b) × (cached.tag_in (cached.page_of c b) ≡ Some n)
  named_page k n tag =
      let stands_at : Buf → Bool = λ b. cached.place_of c b == k in
      let found = find_some stands_at (held_pages w h) (named k (holds (get_or c.places k None) tag)) in
      let b = found.element in
      let known = filter_there (is_held w h) (known_pages h) found.place b found.there in
      let here : cached.place_of c b ≡ k = eqb-true (cached.place_of c b) k found.passes in
      (known.0, b, known.1, ap (λ i. cached.tag_in (get_or c.places i None)) here ∙ tag)
    where
      holds : (x : Option Held) → cached.tag_in x ≡ Some n → is_some x ≡ true
      holds None is = absurd (cc)
      holds (Some p) is = refl

  tagged_page : (s : Serial) (g n : ℕ) → cached.tag_in (cached.page_of c (Page s g)) ≡ Some n
      → blamed h (open_at h (Page s g)) ≡ Some (tags.members n)
  tagged_page s g n tag =
      blamed_is h (open_at h (Page s g))
      (sym (dirty_are_open w h s g accepted legal) ∙ sym (stands.dirty_are s g) ∙ ap is_some tag)
      ∙ ap Some (sym (members_are s g n tag))

  tagged_known : (i : ℕ) (b : Buf) (n : ℕ) → slice_get (known_pages h) i ≡ Some b
      → cached.tag_in (cached.page_of c b) ≡ Some n → blamed h (open_at h b) ≡ Some (tags.members n)
  tagged_known i b n at tag =
      let page = known_are_pages h i b at in
      ap (λ x. blamed h (open_at h x)) page.2
      ∙ tagged_page page.0 page.1 n (ap (λ x. cached.tag_in (cached.page_of c x)) (sym page.2) ∙ tag)

  pub used_page : (n : ℕ) → 1 ≤ held same (cached.tags_in c) n
      → (i : ℕ) × (b : Buf) × (slice_get (known_pages h) i ≡ Some b)
      × (blamed h (open_at h b) ≡ Some (tags.members n))
  used_page n used =
      let place = held_place (cached.tags_in c) n used in
      let page = named_page place.0 n (sym (get_or-map cached.tag_in c.places place.0 None) ∙ place.2) in
      (page.0, page.1, page.2, tagged_known page.0 page.1 n page.2 page.3)
