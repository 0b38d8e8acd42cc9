-- What the cache holds is what the history holds, after an eviction.
use Rattle.std.proofs.Common.{◌≡◌, ◌≢◌, ℕ, ◌≤◌, List, Bool, true, false, not, ◌&&◌, ◌||◌, Option, Some, None, is_some}
use Rattle.std.proofs.Common.{is_none, IsSome, refl, ap, sym, ◌∙◌, arith}
use Rattle.std.proofs.lemmas.Bool.{both_ways}
use Rattle.split_types.specs.declared.ids.Pid.{Pid}
use Rattle.split_types.specs.declared.ids.Serial.{Serial}
use Rattle.split_types.specs.declared.buf.Buf.{Buf}
use Rattle.split_types.specs.declared.buf.Buf.TheVariants.{Page, Bitmap, Dir, Inode}
use Rattle.split_types.specs.declared.workload.Workload.{Workload}
use Rattle.split_types.specs.declared.event.Event.{Event}
use Rattle.split_types.specs.declared.event.Event.TheVariants.{Evict}
use Rattle.split_types.specs.History.{◌▹◌}
use Rattle.split_types.specs.Hooks.{same_buf}
use Rattle.split_types.specs.Pages.{is_dirty, is_busy}
use Rattle.split_types.specs.Reads.{is_loading}
use Rattle.split_types.specs.HeldPages.{is_held}
use Rattle.split_types.specs.Victims.{is_evictable, victim}
use Rattle.split_types.specs.Victims.{IsVictim as IsNext}
use Rattle.split_types.specs.PagesInCache.{CountsEvict, IsThere, pin_of}
use Rattle.split_types.specs.Accepted.{IsAccepted}
use Rattle.split_types.specs.Legal.{IsLegal}
use Rattle.split_types.proofs.Shared.{same_buf-is, same_buf-self}
use Rattle.split_types.proofs.Shared.{pages_change}
use Rattle.split_types.proofs.Shared.{pins_change}
use Rattle.split_types.proofs.Shared.{counts_change}
use Rattle.split_types.proofs.Shared.{running_causes}
use Rattle.split_types.proofs.Shared.{victims_are_oldest}
use Rattle.cause_set.specs.Tags.{Tags, same, set_in}
use Rattle.page_cache.specs.Held.{Held}
use Rattle.page_cache.specs.Cached as cached
use Rattle.page_cache.specs.Cached.{Cached, page_of, touch_of, is_idle, IsDataPage}
use Rattle.page_cache.specs.Changes.{ChangesOnly, KeepsTouches, IsVictim, one_if}
use Rattle.split_core.specs.Pages.{CacheStands}
use Rattle.split_core.proofs.PageFacts.{Mirrors, mirrors, mirrors_at, Leaves, looks_same, there_before, mirrors_left}
use Rattle.split_core.proofs.PageOrder.{apart_pages, order_kept}
use Rattle.split_core.proofs.PageNotes.{stands_by, there_held}

-- ---- a page that may be evicted
-- a page is idle where the history says that it may be evicted
idle_marks : (a b c : Bool) (o : Option Pid) → (not a && not b && not c && is_none o)
    ≡ not ((a || b) || c || is_some o)
idle_marks true b c o = refl
idle_marks false true c o = refl
idle_marks false false true o = refl
idle_marks false false false None = refl
idle_marks false false false (Some p) = refl

idle_by : (x : Option Held) → is_idle x
    ≡ (is_some x && not ((is_some (cached.tag_in x) || cached.is_busy x) || cached.is_loading x
    || is_some (cached.pin_in x)))
idle_by None = refl
idle_by (Some p) = idle_marks (is_some p.tag) p.state.busy p.state.loading p.state.pin

same_marks : (a0 a1 b0 b1 c0 c1 d0 d1 : Bool) (o0 o1 : Option Pid) → a0 ≡ a1 → b0 ≡ b1 → c0 ≡ c1 → d0 ≡ d1 → o0 ≡ o1
    → (a0 && not ((b0 || c0) || d0 || is_some o0)) ≡ (a1 && not ((b1 || c1) || d1 || is_some o1))
same_marks a0 a1 b0 b1 c0 c1 d0 d1 o0 o1 a b c d o =
    ap (λ x. x && not ((b0 || c0) || d0 || is_some o0)) a ∙ ap (λ x. a1 && not ((x || c0) || d0 || is_some o0)) b
    ∙ ap (λ x. a1 && not ((b1 || x) || d0 || is_some o0)) c ∙ ap (λ x. a1 && not ((b1 || c1) || x || is_some o0)) d
    ∙ ap (λ x. a1 && not ((b1 || c1) || d1 || is_some x)) o

pub idle_is : (w : Workload) (h : List Event) (tags : Tags) (x : Option Held) (s : Serial) (g : ℕ)
    → Mirrors w h tags x s g → is_idle x ≡ is_evictable w h (Page s g)
idle_is w h tags x s g m =
    idle_by x
    ∙ same_marks (is_some x) (is_held w h (Page s g)) (is_some (cached.tag_in x)) (is_dirty w h (Page s g))
    (cached.is_busy x) (is_busy w h (Page s g)) (cached.is_loading x) (is_loading w h (Page s g)) (cached.pin_in x)
    (pin_of w h (Page s g)) m.held_is m.dirty_is m.busy_is m.loading_is m.pin_is
    ∙ sym (pins_change.free w h (Page s g))

-- what an idle page is
pub record IsRested (x : Option Held) : Type 0 where
  pub held : is_some x ≡ true
  pub clean : cached.tag_in x ≡ None
  pub idle : cached.is_busy x ≡ false
  pub loaded : cached.is_loading x ≡ false
  pub free : cached.pin_in x ≡ None
  pub settled : cached.is_unsettled x ≡ false

pub idle_rests : (x : Option Held) → is_idle x ≡ true → IsRested x
idle_rests None is = absurd (cc)
idle_rests (Some p) is =
    let parts = marks p.tag p.state.busy p.state.loading p.state.pin is
    in record {
      held = refl;
      clean = parts.0;
      idle = parts.1;
      loaded = parts.2;
      free = parts.3;
      settled = ap (λ (t : Option ℕ). is_some t || p.state.busy) parts.0 ∙ parts.1;
    }
  where
    marks : (t : Option ℕ) (b c : Bool) (o : Option Pid) → (not (is_some t) && not b && not c && is_none o) ≡ true
        → (t ≡ None) × (b ≡ false) × (c ≡ false) × (o ≡ None)
    marks None false false None is = (refl, refl, refl, refl)
    marks None false false (Some p) is = absurd (cc)
    marks None false true o is = absurd (cc)
    marks None true c o is = absurd (cc)
    marks (Some t) b c o is = absurd (cc)

-- ---- the next to be evicted is the oldest idle page of the cache
idle_page : (w : Workload) (h : List Event) (c : Cached) (tags : Tags) (s : Serial) (g : ℕ) → IsAccepted w → IsLegal w h
    → CacheStands w c tags h → is_idle (page_of c (Page s g)) ≡ is_evictable w h (Page s g)
idle_page w h c tags s g accepted legal stands =
    idle_is w h tags (page_of c (Page s g)) s g (mirrors w h c tags s g accepted legal stands)

idle_there : (w : Workload) (h : List Event) (c : Cached) (tags : Tags) (s : Serial) (g : ℕ) → CacheStands w c tags h
    → is_idle (page_of c (Page s g)) ≡ true → IsThere w h (Page s g)
idle_there w h c tags s g stands idle =
    let rested = idle_rests (page_of c (Page s g)) idle
    in record { held = sym (stands.held_are s g) ∙ rested.held; loaded = sym (stands.loading_are s g) ∙ rested.loaded }

pub victim_is : (w : Workload) (h : List Event) (c : Cached) (tags : Tags) (s : Serial) (g : ℕ) → IsAccepted w
    → IsLegal w h → victim w h ≡ Some (Page s g) → CacheStands w c tags h → IsVictim c (Page s g)
victim_is w h c tags s g accepted legal next stands = record { idle = idle; oldest = oldest }
  where
    is : IsNext w h (Page s g)
    is = victims_are_oldest.some w h (Page s g) next

    idle : is_idle (page_of c (Page s g)) ≡ true
    idle = idle_page w h c tags s g accepted legal stands ∙ is.evictable

    behind : (t : Serial) (k : ℕ) → is_idle (page_of c (Page t k)) ≡ true → (b : Bool)
        → same_buf (Page s g) (Page t k) ≡ b → touch_of c (Page s g) ≤ touch_of c (Page t k)
    behind t k other true one =
        let same : touch_of c (Page s g) ≡ touch_of c (Page t k) =
        ap (touch_of c) (same_buf-is (Page s g) (Page t k) one)
        in omega (arith, same)
    behind t k other false two =
        let free : is_evictable w h (Page t k) ≡ true = sym (idle_page w h c tags t k accepted legal stands) ∙ other
        in let less = stands.order s t g k (idle_there w h c tags s g stands idle)
        (idle_there w h c tags t k stands other) (is.oldest (Page t k) free two)
        in omega (arith, less)

    oldest : (b : Buf) → is_idle (page_of c b) ≡ true → touch_of c (Page s g) ≤ touch_of c b
    oldest (Page t k) other = behind t k other (same_buf (Page s g) (Page t k)) refl
    oldest Bitmap other = absurd (stands.pages_alone Bitmap (idle_rests (page_of c Bitmap) other).held)
    oldest (Dir k) other = absurd (stands.pages_alone (Dir k) (idle_rests (page_of c (Dir k)) other).held)
    oldest (Inode k) other = absurd (stands.pages_alone (Inode k) (idle_rests (page_of c (Inode k)) other).held)

-- ---- an eviction
-- the page that is evicted
evicted_page : (w : Workload) (h : List Event) (by : Pid) (tags : Tags) (x y : Option Held) (s : Serial) (g : ℕ)
    → IsAccepted w → IsLegal w (h ▹ Evict by s g) → is_idle x ≡ true → y ≡ None → Mirrors w h tags x s g
    → Mirrors w (h ▹ Evict by s g) tags y s g
evicted_page w h by tags x y s g accepted legal idle gone m =
    let rested = idle_rests x idle
    in let after = pages_change w h (Evict by s g) (Page s g) accepted legal
    in let out : is_held w (h ▹ Evict by s g) (Page s g) ≡ false =
    after.held_is ∙ ap (λ b. not b && is_held w h (Page s g)) (same_buf-self (Page s g))
    in record {
      held_is = ap is_some gone ∙ sym out;
      loading_is = ap cached.is_loading gone ∙ sym (after.loading_is ∙ sym m.loading_is ∙ rested.loaded);
      dirty_is = ap (λ (z : Option Held). is_some (cached.tag_in z)) gone
          ∙ sym (after.dirty_is ∙ sym m.dirty_is ∙ ap is_some rested.clean);
      busy_is = ap cached.is_busy gone ∙ sym (after.busy_is ∙ sym m.busy_is ∙ rested.idle);
      pin_is = ap cached.pin_in gone
          ∙ sym (pins_change.change w h (Evict by s g) (Page s g) accepted legal ∙ sym m.pin_is ∙ rested.free);
      causes_is = ap (λ (z : Option Held). set_in same tags (cached.tag_in z)) gone
          ∙ ap (set_in same tags) (sym rested.clean) ∙ m.causes_is
          ∙ sym (running_causes.kept h (Evict by s g) (Page s g) refl refl);
      bytes_is = λ there. absurd (both_ways (is_held w (h ▹ Evict by s g) (Page s g)) out there.held);
    }

-- another page
pub leaves_evict : (w : Workload) (h : List Event) (by : Pid) (s t : Serial) (g k : ℕ) → IsAccepted w
    → IsLegal w (h ▹ Evict by s g) → same_buf (Page t k) (Page s g) ≡ false → Leaves w h (h ▹ Evict by s g) t k
leaves_evict w h by s t g k accepted legal other =
    let after = pages_change w h (Evict by s g) (Page t k) accepted legal
    in record {
      page = record {
        held_is = after.held_is ∙ ap (λ b. not b && is_held w h (Page t k)) other;
        loading_is = after.loading_is;
        dirty_is = after.dirty_is;
        busy_is = after.busy_is;
      };
      causes_are = running_causes.kept h (Evict by s g) (Page t k) refl refl;
      bytes_are = refl;
    }

pub pages_evict : (w : Workload) (h : List Event) (by : Pid) (s : Serial) (g : ℕ) (old new : Cached) (tags : Tags)
    → IsAccepted w → IsLegal w (h ▹ Evict by s g) → victim w h ≡ Some (Page s g)
    → ChangesOnly old new (Page s g) None → KeepsTouches old new → CacheStands w old tags h
    → CacheStands w new tags (h ▹ Evict by s g)
pages_evict w h by s g old new tags accepted legal next page keeps stands =
    stands_by w l new tags (page.limit ∙ stands.limit) (λ t k. each t k (same_buf (Page t k) (Page s g)) refl)
    (order_kept w h l old new keeps
    (λ t k there. (let was = before t k there (same_buf (Page t k) (Page s g)) refl
    in let held : IsSome (page_of old (Page t k)) = there_held w h old tags t k stands was.0
    in record {
      there = was.0;
      touch = refl;
      was = held;
      is = ap is_some (page.others (Page t k) was.1) ∙ held;
    }))
    stands.order)
    (omega (arith, page.count, one, stands.held_counted, counts.held_is))
    (omega (arith, page.unsettled, none, stands.unsettled_counted, counts.unsettled_is))
    (λ b held. alone b held (same_buf b (Page s g)) refl)
  where
    l : List Event
    l = h ▹ Evict by s g

    idle : is_idle (page_of old (Page s g)) ≡ true
    idle = (victim_is w h old tags s g accepted legal.1 next stands).idle

    rested : IsRested (page_of old (Page s g))
    rested = idle_rests (page_of old (Page s g)) idle

    counts : CountsEvict w h l
    counts = counts_change w h (Evict by s g) accepted legal

    one : one_if (is_some (page_of old (Page s g))) ≡ 1
    one = ap one_if rested.held

    none : one_if (cached.is_unsettled (page_of old (Page s g))) ≡ 0
    none = ap one_if rested.settled

    each : (t : Serial) (k : ℕ) (b : Bool) → same_buf (Page t k) (Page s g) ≡ b
        → Mirrors w l tags (page_of new (Page t k)) t k
    each t k true is =
        let here : Page t k ≡ Page s g = same_buf-is (Page t k) (Page s g) is
        in mirrors_at w l new tags s t g k (sym here)
        (evicted_page w h by tags (page_of old (Page s g)) (page_of new (Page s g)) s g accepted legal idle page.page
        (mirrors w h old tags s g accepted legal.1 stands))
    each t k false other =
        let kept : page_of new (Page t k) ≡ page_of old (Page t k) =
        page.others (Page t k) (apart_pages (Page t k) (Page s g) other)
        in let m = mirrors w h old tags t k accepted legal.1 stands
        in mirrors_left w h l tags tags (page_of old (Page t k)) (page_of new (Page t k)) t k
        (leaves_evict w h by s t g k accepted legal other)
        (looks_same (page_of old (Page t k)) (page_of new (Page t k)) kept)
        (ap cached.pin_in kept ∙ m.pin_is
        ∙ sym (pins_change.change w h (Evict by s g) (Page t k) accepted legal))
        (ap (λ (z : Option Held). set_in same tags (cached.tag_in z)) kept) m

    before : (t : Serial) (k : ℕ) → IsThere w l (Page t k) → (b : Bool) → same_buf (Page t k) (Page s g) ≡ b
        → IsThere w h (Page t k) × (Page t k ≢ Page s g)
    before t k there true is =
        let out : is_held w l (Page t k) ≡ false =
        (pages_change w h (Evict by s g) (Page t k) accepted legal).held_is
        ∙ ap (λ b. not b && is_held w h (Page t k)) is
        in absurd (both_ways (is_held w l (Page t k)) out there.held)
    before t k there false other = (
      there_before w h l t k (leaves_evict w h by s t g k accepted legal other) there,
      apart_pages (Page t k) (Page s g) other,
    )

    alone : (b : Buf) → is_some (page_of new b) ≡ true → (t : Bool) → same_buf b (Page s g) ≡ t → IsDataPage b
    alone b held true is =
        let out : is_some (page_of new b) ≡ false =
        ap (λ d. is_some (page_of new d)) (same_buf-is b (Page s g) is) ∙ ap is_some page.page
        in absurd (both_ways (is_some (page_of new b)) out held)
    alone b held false other =
        stands.pages_alone b (sym (ap is_some (page.others b (apart_pages b (Page s g) other))) ∙ held)
