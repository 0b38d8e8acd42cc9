-- What the cache holds is what the history holds, after a file is dropped.
use Rattle.std.proofs.Common.{◌≡◌, ℕ, ◌+◌, ◌<◌, ◌≤◌, ◌==◌, List, [], ◌∷◌, slice_get, filter, Bool, true, false, not, ◌&&◌, ◌||◌}
use Rattle.std.proofs.Common.{cond, Option, Some, None, is_some, IsSome, refl, ap, sym, subst, ◌∙◌, arith, inl, inr, eq-eqb}
use Rattle.std.proofs.Common.{if◌then◌else◌}
use Rattle.std.specs.Prelude.{count_by}
use Rattle.std.specs.List.{list_any}
use Rattle.std.proofs.lemmas.Bool.{and_parts, both_ways, cases_Bool, cond-true, cond-false, or_right}
use Rattle.std.proofs.lemmas.Bool.Decides.{nat_tests}
use Rattle.std.proofs.lemmas.List.Sums.{sum_by-cons}
use Rattle.split_types.specs.declared.ids.Pid.{Pid}
use Rattle.split_types.specs.declared.ids.Serial.{Serial}
use Rattle.split_types.specs.declared.ids.Slot.{Slot}
use Rattle.split_types.specs.declared.buf.Buf.{Buf}
use Rattle.split_types.specs.declared.buf.Buf.TheVariants.{Page, Bitmap, Dir, Inode}
use Rattle.split_types.specs.declared.request.ReqKind.TheVariants.{Pages}
use Rattle.split_types.specs.declared.request.Request.{Request}
use Rattle.split_types.specs.declared.workload.Workload.{Workload}
use Rattle.split_types.specs.declared.event.Event.{Event}
use Rattle.split_types.specs.declared.event.Event.TheVariants.{Drop}
use Rattle.split_types.specs.History.{◌▹◌}
use Rattle.split_types.specs.Hooks.{same_buf, is_among}
use Rattle.split_types.specs.Parents.{pages_of}
use Rattle.split_types.specs.Blame.{causes}
use Rattle.split_types.specs.Pages.{is_dirty, is_busy}
use Rattle.split_types.specs.Reads.{is_loading}
use Rattle.split_types.specs.HeldPages.{is_held, is_unsettled, known_pages, held_pages, unsettled_pages}
use Rattle.split_types.specs.PagesInCache.{CountsDrop, IsThere, is_page_of, pin_of}
use Rattle.split_types.specs.Accepted.{IsAccepted}
use Rattle.split_types.specs.Legal.{IsLegal}
use Rattle.split_types.proofs.Shared.{count_yes, count_no, count_filter, count_filter_less, find_some, filter_there}
use Rattle.split_types.proofs.Shared.{in_filter}
use Rattle.split_types.proofs.Shared.{list_any_here, same_buf-is, same_buf-self, among_pages, pages_are_known}
use Rattle.split_types.proofs.Shared.{StandsIn, AreDistinct, some_changed, known_once, are_written}
use Rattle.split_types.proofs.Shared.{pages_change, pins_change, counts_change, running_causes, unsettled_are_held}
use Rattle.cause_set.specs.Tags.{Tags, same, set_in}
use Rattle.page_cache.specs.Held.{Held}
use Rattle.page_cache.specs.Cached as cached
use Rattle.page_cache.specs.Cached.{Cached, page_of, IsDataPage}
use Rattle.page_cache.specs.Changes.{Frees, is_of}
use Rattle.split_core.specs.Pages.{CacheStands}
use Rattle.split_core.proofs.PageFacts.{Mirrors, mirrors, Leaves, looks_same, there_before, mirrors_left}
use Rattle.split_core.proofs.PageOrder.{Stays, same_buf-other, order_kept}
use Rattle.split_core.proofs.PageNotes.{stands_by, there_held}
use Rattle.split_core.proofs.PagePuts.{unsettled_is}
use Rattle.split_core.proofs.PageRuns.{count_pages}

-- ---- lists in which nothing stands twice
distinct_from : (xs : List Buf) → ((c : Buf) → StandsIn c xs → count_by (λ b. same_buf b c) xs ≤ 1)
    → AreDistinct xs
distinct_from [] once = tt
distinct_from (x ∷ xs) once = (
  omega (
    arith,
    once x (ap (λ t. t || list_any (same_buf x) xs) (same_buf-self x)),
    count_yes (λ b. same_buf b x) x xs (same_buf-self x),
  ),
  distinct_from xs (λ c there. omega (
    arith,
    once c (or_right (same_buf c x) (list_any (same_buf c) xs) there),
    sum_by-cons (λ b. cond (same_buf b c) 1 0) x xs,
  )),
)

distinct_once : (c : Buf) (xs : List Buf) → AreDistinct xs → StandsIn c xs
    → count_by (λ b. same_buf b c) xs ≡ 1
distinct_once c [] distinct there = absurd (cc)
distinct_once c (x ∷ xs) distinct there = elim (cases_Bool (same_buf x c)) [
  | inl here ↦
      (let none : count_by (λ b. same_buf b c) xs ≡ 0 =
      subst (λ d. count_by (λ b. same_buf b d) xs ≡ 0) (same_buf-is x c here) distinct.0
      in omega (arith, count_yes (λ b. same_buf b c) x xs here, none))
  | inr past ↦
      (let later : StandsIn c xs =
      sym (ap (λ t. t || list_any (same_buf c) xs) (same_buf-other x c past)) ∙ there
      in omega (arith, count_no (λ b. same_buf b c) x xs past, distinct_once c xs distinct.1 later))
]

-- ---- the pages of a file
-- what a filter keeps stands in the list, and passes
record IsKept (p : Buf → Bool) (xs : List Buf) (c : Buf) : Type 0 where
  pub passes : p c ≡ true
  pub there : StandsIn c xs

kept_is : (p : Buf → Bool) (xs : List Buf) (c : Buf) → StandsIn c (filter p xs) → IsKept p xs c
kept_is p xs c stands =
    let found = find_some (same_buf c) (filter p xs) stands
    in let is : c ≡ found.element = same_buf-is c found.element found.passes
    in let at = filter_there p xs found.place found.element found.there
    in record {
      passes = ap p is ∙ at.2;
      there = list_any_here (same_buf c) xs at.0 found.element at.1 found.passes;
    }

none_pass : (xs : List Buf) → count_by (λ b. false) xs ≡ 0
none_pass [] = refl
none_pass (x ∷ xs) = omega (arith, count_no (λ b. false) x xs refl, none_pass xs)

count_both : (p q : Buf → Bool) (xs : List Buf) → count_by q (filter p xs) ≡ count_by (λ b. p b && q b) xs
count_both p q [] = refl
count_both p q (x ∷ xs) = elim (cases_Bool (p x)) [
  | inl kept ↦
      (let one : ◌≡◌ {A = ℕ} (cond (p x && q x) 1 0) (cond (q x) 1 0) = ap (λ t. cond (t && q x) 1 0) kept
      in subst (λ l. count_by q l ≡ count_by (λ b. p b && q b) (x ∷ xs)) (sym (filter_yes kept)) (omega (
        arith,
        one,
        sum_by-cons (λ b. cond (q b) 1 0) x (filter p xs),
        sum_by-cons (λ b. cond (p b && q b) 1 0) x xs,
        count_both p q xs,
      )))
  | inr left ↦
      subst (λ l. count_by q l ≡ count_by (λ b. p b && q b) (x ∷ xs)) (sym (filter_no left)) (omega (
        arith,
        count_no (λ b. p b && q b) x xs (ap (λ t. t && q x) left),
        count_both p q xs,
      ))
]
  where
    filter_yes : p x ≡ true → filter p (x ∷ xs) ≡ x ∷ filter p xs
    filter_yes is = cond-true (p x) (x ∷ filter p xs) (filter p xs) is

    filter_no : p x ≡ false → filter p (x ∷ xs) ≡ filter p xs
    filter_no is = cond-false (p x) (x ∷ filter p xs) (filter p xs) is

-- a request for all pages of a file
abbrev whole_file : Serial → ℕ → Request
whole_file s n = record { id = record { 0 = 0 }; kind = Pages s 0; first = 0; n = n }

page_once : (s : Serial) (n : ℕ) (c : Buf) → is_among s 0 n c ≡ true
    → count_by (λ b. same_buf b c) (pages_of s 0 n) ≡ 1
page_once s n c among =
    distinct_once c (pages_of s 0 n) (are_written (whole_file s n)).distinct (among_pages s 0 n c among)

below_among : (s t : Serial) (n k : ℕ) → (s.0 == t.0) ≡ true → k < n → is_among s 0 n (Page t k) ≡ true
below_among s t n k is low = grind (arith, nat_tests)

-- as many known pages of a file pass a test as pages of the file do, where those that pass are known, and the file's
-- among its first
pub file_count : (h : List Event) (p : Buf → Bool) (s : Serial) (n : ℕ)
    → ((b : Buf) → p b ≡ true → StandsIn b (known_pages h)) → ((t : Serial) (k : ℕ) → p (Page t k) ≡ true → k < n)
    → count_by (is_page_of s) (filter p (known_pages h)) ≡ count_by p (pages_of s 0 n)
file_count h p s n known within =
    count_both p (is_page_of s) (known_pages h) ∙ sym (counted (some_changed (λ b. false) both some (pages_of s 0 n)
    apart (distinct_from some once) here))
    ∙ count_pages both p s 0 n (λ k low. own (p (Page s (0 + k))) (s.0 == s.0) (same_number s.0))
  where
    both : Buf → Bool
    both b = p b && is_page_of s b

    some : List Buf
    some = filter both (known_pages h)

    own : (t u : Bool) → u ≡ true → (t && u) ≡ t
    own true u is = is
    own false u is = refl

    same_number : (x : ℕ) → (x == x) ≡ true
    same_number x = eq-eqb x x refl

    once : (c : Buf) → StandsIn c some → count_by (λ b. same_buf b c) some ≤ 1
    once c stands = omega (
      arith,
      count_filter_less (λ b. same_buf b c) both (known_pages h),
      known_once h c (kept_is both (known_pages h) c stands).there,
    )

    false_both : (t : Bool) → (t && false) ≡ true → ⊥
    false_both true is = absurd (cc)
    false_both false is = absurd (cc)

    among : (c : Buf) → both c ≡ true → is_among s 0 n c ≡ true
    among (Page t k) is =
        let parts = and_parts (p (Page t k)) (s.0 == t.0) is in below_among s t n k parts.1 (within t k parts.0)
    among Bitmap is = absurd (false_both (p Bitmap) is)
    among (Dir k) is = absurd (false_both (p (Dir k)) is)
    among (Inode t) is = absurd (false_both (p (Inode t)) is)

    here : (c : Buf) → StandsIn c some → count_by (λ b. same_buf b c) (pages_of s 0 n) ≡ 1
    here c stands = page_once s n c (among c (kept_is both (known_pages h) c stands).passes)

    apart : (b : Buf) → list_any (same_buf b) some ≡ false → false ≡ both b
    apart b out = by_test (both b) refl
      where
        standing : (c : Buf) → b ≡ c → both c ≡ true → (i : ℕ) → slice_get (known_pages h) i ≡ Some c
            → list_any (same_buf b) some ≡ true
        standing c one is i at =
            let j = in_filter both (known_pages h) i c at is
            in list_any_here (same_buf b) some j.0 c j.1 (ap (same_buf b) (sym one) ∙ same_buf-self b)

        by_test : (t : Bool) → both b ≡ t → false ≡ both b
        by_test false is = sym is
        by_test true is =
            let found = find_some (same_buf b) (known_pages h) (known b (and_parts (p b) (is_page_of s b) is).0)
            in let one : b ≡ found.element = same_buf-is b found.element found.passes
            in absurd (both_ways (list_any (same_buf b) some) out (standing found.element one (ap both (sym one) ∙ is)
            found.place found.there))

    counted : count_by both (pages_of s 0 n) + count_by (λ b. false) some
        ≡ count_by (λ b. false) (pages_of s 0 n) + count_by both some
        → count_by both (pages_of s 0 n) ≡ count_by both (known_pages h)
    counted is = omega (
      arith,
      is,
      none_pass some,
      none_pass (pages_of s 0 n),
      count_filter both both (known_pages h) (λ b passes. passes),
    )

-- ---- the pages of a file that is dropped
if_gone : {A : Type 0} (t : Bool) (x : Option A) → t ≡ true → ◌≡◌ {A = Option A} (if t then None else x) None
if_gone true x is = refl
if_gone false x is = absurd (cc)

if_kept : {A : Type 0} (t : Bool) (x : Option A) → t ≡ false → ◌≡◌ {A = Option A} (if t then None else x) x
if_kept true x is = absurd (cc)
if_kept false x is = refl

same_serial : (s : Serial) (b : Buf) → is_of s b ≡ is_page_of s b
same_serial s (Page t k) = turned t.0 s.0
  where
    turned : (x y : ℕ) → (x == y) ≡ (y == x)
    turned x y = grind (arith, nat_tests)
same_serial s Bitmap = refl
same_serial s (Dir k) = refl
same_serial s (Inode t) = refl

freed_causes : (h : List Event) (by : Pid) (slot : Slot) (s t : Serial) (k : ℕ) → is_page_of s (Page t k) ≡ true
    → causes (h ▹ Drop by slot s) (Page t k ∷ []) ≡ []
freed_causes h by slot s t k is =
    running_causes.ended h (Drop by slot s) (Page t k) refl (ap (λ b. b || false) is)

dropped_page : (w : Workload) (h : List Event) (by : Pid) (slot : Slot) (s t : Serial) (k : ℕ) (tags : Tags)
    (x : Option Held) → IsAccepted w → IsLegal w (h ▹ Drop by slot s) → is_page_of s (Page t k) ≡ true → x ≡ None
    → Mirrors w (h ▹ Drop by slot s) tags x t k
dropped_page w h by slot s t k tags x accepted legal is gone =
    let after = pages_change w h (Drop by slot s) (Page t k) accepted legal
    in let out : is_held w (h ▹ Drop by slot s) (Page t k) ≡ false =
    after.held_is ∙ ap (λ b. not b && is_held w h (Page t k)) is
    in record {
      held_is = ap is_some gone ∙ sym out;
      loading_is = ap cached.is_loading gone
          ∙ sym (after.loading_is ∙ ap (λ b. not b && is_loading w h (Page t k)) is);
      dirty_is = ap (λ (z : Option Held). is_some (cached.tag_in z)) gone
          ∙ sym (after.dirty_is ∙ ap (λ b. not b && is_dirty w h (Page t k)) is);
      busy_is = ap cached.is_busy gone ∙ sym (after.busy_is ∙ ap (λ b. not b && is_busy w h (Page t k)) is);
      pin_is = ap cached.pin_in gone
          ∙ sym (pins_change.change w h (Drop by slot s) (Page t k) accepted legal
          ∙ if_gone (is_page_of s (Page t k)) (pin_of w h (Page t k)) is);
      causes_is = ap (λ (z : Option Held). set_in same tags (cached.tag_in z)) gone
          ∙ sym (freed_causes h by slot s t k is);
      bytes_is =
          λ there. absurd (both_ways (is_held w (h ▹ Drop by slot s) (Page t k)) out there.held);
    }

leaves_drop : (w : Workload) (h : List Event) (by : Pid) (slot : Slot) (s t : Serial) (k : ℕ) → IsAccepted w
    → IsLegal w (h ▹ Drop by slot s) → is_page_of s (Page t k) ≡ false → Leaves w h (h ▹ Drop by slot s) t k
leaves_drop w h by slot s t k accepted legal other =
    let after = pages_change w h (Drop by slot s) (Page t k) accepted legal
    in record {
      page = record {
        held_is = after.held_is ∙ ap (λ b. not b && is_held w h (Page t k)) other;
        loading_is = after.loading_is ∙ ap (λ b. not b && is_loading w h (Page t k)) other;
        dirty_is = after.dirty_is ∙ ap (λ b. not b && is_dirty w h (Page t k)) other;
        busy_is = after.busy_is ∙ ap (λ b. not b && is_busy w h (Page t k)) other;
      };
      causes_are = running_causes.kept h (Drop by slot s) (Page t k) refl (ap (λ b. b || false) other);
      bytes_are = refl;
    }

-- ---- how many pages are left
left_over : (new gone old held of all : ℕ) → new + gone ≡ old → old ≡ all → gone ≡ of → held + of ≡ all → new ≡ held
left_over new gone old held of all counted stood same dropped = omega arith

-- a page that is held is one that a file may have
held_within : (w : Workload) (h : List Event) (c : Cached) (tags : Tags) (t : Serial) (k : ℕ) → CacheStands w c tags h
    → is_held w h (Page t k) ≡ true → k < 1008
held_within w h c tags t k stands held = stands.pages_alone (Page t k) (stands.held_are t k ∙ held)

held_count : (w : Workload) (h : List Event) (c : Cached) (tags : Tags) (s : Serial) (n : ℕ)
    → ((t : Serial) (k : ℕ) → is_held w h (Page t k) ≡ true → k < n) → CacheStands w c tags h
    → count_by (λ b. is_some (page_of c b)) (pages_of s 0 n) ≡ count_by (is_page_of s) (held_pages w h)
held_count w h c tags s n within stands =
    count_pages (λ b. is_some (page_of c b)) (is_held w h) s 0 n (λ k low. stands.held_are s (0 + k))
    ∙ sym (file_count h (is_held w h) s n (pages_are_known.held w h) within)

unsettled_count : (w : Workload) (h : List Event) (c : Cached) (tags : Tags) (s : Serial) (n : ℕ) → IsAccepted w
    → IsLegal w h → ((t : Serial) (k : ℕ) → is_held w h (Page t k) ≡ true → k < n) → CacheStands w c tags h
    → count_by (λ b. cached.is_unsettled (page_of c b)) (pages_of s 0 n)
    ≡ count_by (is_page_of s) (unsettled_pages w h)
unsettled_count w h c tags s n accepted legal within stands =
    count_pages (λ b. cached.is_unsettled (page_of c b)) (is_unsettled w h) s 0 n
    (λ k low. unsettled_is w h tags (page_of c (Page s (0 + k))) s (0 + k)
    (mirrors w h c tags s (0 + k) accepted legal stands))
    ∙ sym (file_count h (is_unsettled w h) s n (pages_are_known.unsettled w h)
    (λ t k passes. within t k (unsettled_are_held w h (Page t k) accepted legal passes).held))

-- ---- a drop
pub pages_drop : (w : Workload) (h : List Event) (by : Pid) (slot : Slot) (s : Serial) (old new : Cached)
    (before after : Tags) → IsAccepted w → IsLegal w (h ▹ Drop by slot s) → Frees before after old new s
    → CacheStands w old before h → CacheStands w new after (h ▹ Drop by slot s)
pages_drop w h by slot s old new before after accepted legal frees stands =
    stands_by w l new after (frees.limit ∙ stands.limit)
    (λ t k. each t k (is_page_of s (Page t k)) refl)
    (order_kept w h l old new frees.touches
    (λ t k there. stays t k there (is_page_of s (Page t k)) refl)
    stands.order)
    (left_over _ _ _ _ _ _ frees.count stands.held_counted (held_count w h old before s 1008 within stands)
    counts.held_is)
    (left_over _ _ _ _ _ _ frees.unsettled stands.unsettled_counted
    (unsettled_count w h old before s 1008 accepted legal.1 within stands) counts.unsettled_is)
    (λ b held. alone b held (is_of s b) refl)
  where
    l : List Event
    l = h ▹ Drop by slot s

    counts : CountsDrop w h l s
    counts = counts_change w h (Drop by slot s) accepted legal

    within : (t : Serial) (k : ℕ) → is_held w h (Page t k) ≡ true → k < 1008
    within t k held = held_within w h old before t k stands held

    gone : (b : Buf) → is_of s b ≡ true → page_of new b ≡ None
    gone b is = frees.pages b ∙ if_gone (is_of s b) (page_of old b) is

    kept : (b : Buf) → is_of s b ≡ false → page_of new b ≡ page_of old b
    kept b other = frees.pages b ∙ if_kept (is_of s b) (page_of old b) other

    each : (t : Serial) (k : ℕ) (b : Bool) → is_page_of s (Page t k) ≡ b → Mirrors w l after (page_of new (Page t k)) t k
    each t k true is =
        dropped_page w h by slot s t k after (page_of new (Page t k)) accepted legal is
        (gone (Page t k) (same_serial s (Page t k) ∙ is))
    each t k false other =
        let out = same_serial s (Page t k) ∙ other
        in let m = mirrors w h old before t k accepted legal.1 stands
        in mirrors_left w h l before after (page_of old (Page t k)) (page_of new (Page t k)) t k
        (leaves_drop w h by slot s t k accepted legal other)
        (looks_same (page_of old (Page t k)) (page_of new (Page t k)) (kept (Page t k) out))
        (ap cached.pin_in (kept (Page t k) out) ∙ m.pin_is
        ∙ sym (pins_change.change w h (Drop by slot s) (Page t k) accepted legal
        ∙ if_kept (is_page_of s (Page t k)) (pin_of w h (Page t k)) other))
        (frees.causes (Page t k) out) m

    stays : (t : Serial) (k : ℕ) → IsThere w l (Page t k) → (b : Bool) → is_page_of s (Page t k) ≡ b
        → Stays w h l old new (Page t k)
    stays t k there true is =
        absurd (both_ways (is_held w l (Page t k))
        ((pages_change w h (Drop by slot s) (Page t k) accepted legal).held_is
        ∙ ap (λ b. not b && is_held w h (Page t k)) is) there.held)
    stays t k there false other =
        let was = there_before w h l t k (leaves_drop w h by slot s t k accepted legal other) there
        in let held : IsSome (page_of old (Page t k)) = there_held w h old before t k stands was
        in record {
          there = was;
          touch = refl;
          was = held;
          is = ap is_some (kept (Page t k) (same_serial s (Page t k) ∙ other)) ∙ held;
        }

    alone : (b : Buf) → is_some (page_of new b) ≡ true → (t : Bool) → is_of s b ≡ t → IsDataPage b
    alone b held true is = absurd (both_ways (is_some (page_of new b)) (ap is_some (gone b is)) held)
    alone b held false other = stands.pages_alone b (sym (ap is_some (kept b other)) ∙ held)
