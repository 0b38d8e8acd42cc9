-- What the cache holds is what the history holds, after a request to read a page is added and after it is done.
use Rattle.std.proofs.Common.{◌≡◌, ℕ, ◌+◌, List, [], ◌∷◌, length, Bool, true, false, not, ◌&&◌, ◌||◌, Option, Some}
use Rattle.std.proofs.Common.{None, is_some, IsSome, refl, ap, sym, subst, ◌∙◌, arith, if◌then◌else◌}
use Rattle.std.proofs.lemmas.Bool.{both_ways}
use Rattle.split_types.specs.declared.ids.Pid.{Pid}
use Rattle.split_types.specs.declared.ids.Serial.{Serial}
use Rattle.split_types.specs.declared.buf.Buf.{Buf}
use Rattle.split_types.specs.declared.buf.Buf.TheVariants.{Page}
use Rattle.split_types.specs.declared.actor.Actor.{Actor}
use Rattle.split_types.specs.declared.request.ReqKind.TheVariants.{Read}
use Rattle.split_types.specs.declared.request.Request.{Request}
use Rattle.split_types.specs.declared.workload.Workload.{Workload}
use Rattle.split_types.specs.declared.event.Event.{Event}
use Rattle.split_types.specs.declared.event.Event.TheVariants.{Add}
use Rattle.split_types.specs.History.{◌▹◌}
use Rattle.split_types.specs.Hooks.{same_buf, covers}
use Rattle.split_types.specs.Blame.{causes}
use Rattle.split_types.specs.Pages.{is_dirty, is_busy}
use Rattle.split_types.specs.Requests.{is_write}
use Rattle.split_types.specs.Reads.{reads, reads_for, is_loading}
use Rattle.split_types.specs.HeldPages.{is_held, held_pages, unsettled_pages}
use Rattle.split_types.specs.PagesInCache.{CountsAre, IsThere, pin_of}
use Rattle.split_types.specs.Accepted.{IsAccepted}
use Rattle.split_types.specs.Legal.{IsLegal}
use Rattle.split_types.proofs.Shared.{same_buf-is, same_buf-self}
use Rattle.split_types.proofs.Shared.{pages_change}
use Rattle.split_types.proofs.Shared.{pins_change}
use Rattle.split_types.proofs.Shared.{counts_change}
use Rattle.split_types.proofs.Shared.{running_causes}
use Rattle.cause_set.specs.Tags.{Tags, same, set_in}
use Rattle.page_cache.specs.Held.{Held}
use Rattle.page_cache.specs.Cached as cached
use Rattle.page_cache.specs.Cached.{Cached, page_of, IsDataPage}
use Rattle.page_cache.specs.Changes.{BeginsLoad, one_if, page_as}
use Rattle.split_core.specs.Fits.{LoadFits}
use Rattle.split_core.specs.Pages.{CacheStands}
use Rattle.split_core.proofs.PageFacts.{Mirrors, mirrors, mirrors_at, Leaves, looks_same, there_before, mirrors_left}
use Rattle.split_core.proofs.PageOrder.{apart_pages, Stays, order_kept}
use Rattle.split_core.proofs.PageNotes.{stands_by, there_held}

-- ---- a request that reads
pub reads_page : (r : Request) (p : Pid) (s : Serial) (g : ℕ) (b : Buf) → r.kind ≡ Read p s g
    → reads r b ≡ same_buf b (Page s g)
reads_page r p s g b is = rw is refl

pub covers_none : (r : Request) (p : Pid) (s : Serial) (g : ℕ) (b : Buf) → r.kind ≡ Read p s g → covers r b ≡ false
covers_none r p s g b is = rw is refl

pub writes_none : (r : Request) (p : Pid) (s : Serial) (g : ℕ) → r.kind ≡ Read p s g → is_write r ≡ false
writes_none r p s g is = rw is refl

pub reads_for_one : (r : Request) (p : Pid) (s : Serial) (g : ℕ) → r.kind ≡ Read p s g → reads_for r ≡ Some p
reads_for_one r p s g is = rw is refl

pub none_held : (x : Option Held) → is_some x ≡ false → x ≡ None
none_held None is = refl
none_held (Some p) is = absurd (cc)

-- ---- its page
-- a page that begins to load
abbrev loading_as : Serial → ℕ → List ℕ → Pid → Option Held
loading_as s g bytes p = page_as (Page s g) bytes None record { busy = false; loading = true; pin = Some p }

causes_kept : (w : Workload) (h : List Event) (by : Actor) (r : Request) (p : Pid) (s t : Serial) (g k : ℕ)
    → r.kind ≡ Read p s g → causes (h ▹ Add by r) (Page t k ∷ []) ≡ causes h (Page t k ∷ [])
causes_kept w h by r p s t g k is =
    running_causes.kept h (Add by r) (Page t k) refl (covers_none r p s g (Page t k) is)

load_page : (w : Workload) (h : List Event) (by : Actor) (r : Request) (p : Pid) (s : Serial) (g : ℕ) (bytes : List ℕ)
    (tags : Tags) (x y : Option Held) → IsAccepted w → IsLegal w (h ▹ Add by r) → r.kind ≡ Read p s g
    → is_held w h (Page s g) ≡ false → y ≡ loading_as s g bytes p → Mirrors w h tags x s g
    → Mirrors w (h ▹ Add by r) tags y s g
load_page w h by r p s g bytes tags x y accepted legal is absent made m =
    let after = pages_change w h (Add by r) (Page s g) accepted legal
    in let none : x ≡ None = none_held x (m.held_is ∙ absent)
    in let mine : reads r (Page s g) ≡ true = reads_page r p s g (Page s g) is ∙ same_buf-self (Page s g)
    in let free = covers_none r p s g (Page s g) is
    in let loads : is_loading w (h ▹ Add by r) (Page s g) ≡ true =
    after.loading_is ∙ ap (λ b. b || is_loading w h (Page s g)) mine
    in record {
      held_is = ap is_some made ∙ sym (after.held_is ∙ ap (λ b. b || is_held w h (Page s g)) mine);
      loading_is = ap cached.is_loading made ∙ sym loads;
      dirty_is = ap (λ (z : Option Held). is_some (cached.tag_in z)) made
          ∙ ap (λ (z : Option Held). is_some (cached.tag_in z)) (sym none) ∙ m.dirty_is
          ∙ sym (after.dirty_is ∙ ap (λ b. not b && is_dirty w h (Page s g)) free);
      busy_is = ap cached.is_busy made ∙ ap cached.is_busy (sym none) ∙ m.busy_is
          ∙ sym (after.busy_is ∙ ap (λ b. b || is_busy w h (Page s g)) free);
      pin_is = ap cached.pin_in made
          ∙ sym (pins_change.change w h (Add by r) (Page s g) accepted legal
          ∙ ap (λ b. if b then reads_for r else pin_of w h (Page s g)) mine ∙ reads_for_one r p s g is);
      causes_is = ap (λ (z : Option Held). set_in same tags (cached.tag_in z)) made
          ∙ ap (λ (z : Option Held). set_in same tags (cached.tag_in z)) (sym none) ∙ m.causes_is
          ∙ sym (causes_kept w h by r p s s g g is);
      bytes_is = λ there. absurd (both_ways (is_loading w (h ▹ Add by r) (Page s g)) there.loaded loads);
    }

-- ---- the other pages
leaves_load : (w : Workload) (h : List Event) (by : Actor) (r : Request) (p : Pid) (s t : Serial) (g k : ℕ)
    → IsAccepted w → IsLegal w (h ▹ Add by r) → r.kind ≡ Read p s g → same_buf (Page t k) (Page s g) ≡ false
    → Leaves w h (h ▹ Add by r) t k
leaves_load w h by r p s t g k accepted legal is other =
    let after = pages_change w h (Add by r) (Page t k) accepted legal
    in let not_read : reads r (Page t k) ≡ false = reads_page r p s g (Page t k) is ∙ other
    in let free = covers_none r p s g (Page t k) is
    in record {
      page = record {
        held_is = after.held_is ∙ ap (λ b. b || is_held w h (Page t k)) not_read;
        loading_is = after.loading_is ∙ ap (λ b. b || is_loading w h (Page t k)) not_read;
        dirty_is = after.dirty_is ∙ ap (λ b. not b && is_dirty w h (Page t k)) free;
        busy_is = after.busy_is ∙ ap (λ b. b || is_busy w h (Page t k)) free;
      };
      causes_are = causes_kept w h by r p s t g k is;
      bytes_are = refl;
    }

pin_other : (w : Workload) (h : List Event) (by : Actor) (r : Request) (p : Pid) (s t : Serial) (g k : ℕ)
    → IsAccepted w → IsLegal w (h ▹ Add by r) → r.kind ≡ Read p s g → same_buf (Page t k) (Page s g) ≡ false
    → pin_of w (h ▹ Add by r) (Page t k) ≡ pin_of w h (Page t k)
pin_other w h by r p s t g k accepted legal is other =
    pins_change.change w h (Add by r) (Page t k) accepted legal
    ∙ ap (λ b. if b then reads_for r else pin_of w h (Page t k)) (reads_page r p s g (Page t k) is ∙ other)

-- ---- a request to read is added
pub pages_load : (w : Workload) (h : List Event) (by : Actor) (r : Request) (p : Pid) (s : Serial) (g : ℕ)
    (old new : Cached) (tags : Tags) → IsAccepted w → IsLegal w (h ▹ Add by r) → r.kind ≡ Read p s g
    → LoadFits w h s g r.n r.first → BeginsLoad old new (Page s g) p → CacheStands w old tags h
    → CacheStands w new tags (h ▹ Add by r)
pages_load w h by r p s g old new tags accepted legal is fits begins stands =
    stands_by w l new tags (begins.page.limit ∙ stands.limit)
    (λ t k. page t k (same_buf (Page t k) (Page s g)) refl)
    (order_kept w h l old new begins.touches
    (λ t k there. stays t k there (same_buf (Page t k) (Page s g)) refl)
    stands.order)
    (omega (arith, begins.page.count, one, none, stands.held_counted, counts.held_is, more))
    (omega (arith, begins.page.unsettled, settled, still, stands.unsettled_counted, counts.unsettled_is))
    (λ b held. alone b held (same_buf b (Page s g)) refl)
  where
    l : List Event
    l = h ▹ Add by r

    m : Mirrors w h tags (page_of old (Page s g)) s g
    m = mirrors w h old tags s g accepted legal.1 stands

    empty : page_of old (Page s g) ≡ None
    empty = none_held (page_of old (Page s g)) (m.held_is ∙ fits.absent)

    one : one_if (is_some (loading_as s g begins.bytes p)) ≡ 1
    one = refl

    none : one_if (is_some (page_of old (Page s g))) ≡ 0
    none = ap (λ (z : Option Held). one_if (is_some z)) empty

    settled : one_if (cached.is_unsettled (page_of old (Page s g))) ≡ 0
    settled = ap (λ (z : Option Held). one_if (cached.is_unsettled z)) empty

    still : one_if (cached.is_unsettled (loading_as s g begins.bytes p)) ≡ 0
    still = refl

    counts : CountsAre w l (if is_write r then length (held_pages w h) else length (held_pages w h) + 1)
        (length (unsettled_pages w h))
    counts = counts_change w h (Add by r) accepted legal

    more : (if is_write r then length (held_pages w h) else length (held_pages w h) + 1) ≡ length (held_pages w h) + 1
    more = ap (λ b. if b then length (held_pages w h) else length (held_pages w h) + 1) (writes_none r p s g is)

    page : (t : Serial) (k : ℕ) (b : Bool) → same_buf (Page t k) (Page s g) ≡ b
        → Mirrors w l tags (page_of new (Page t k)) t k
    page t k true here =
        mirrors_at w l new tags s t g k (sym (same_buf-is (Page t k) (Page s g) here))
        (load_page w h by r p s g begins.bytes tags (page_of old (Page s g)) (page_of new (Page s g)) accepted legal is
        fits.absent begins.page.page m)
    page t k false other =
        let kept : page_of new (Page t k) ≡ page_of old (Page t k) =
        begins.page.others (Page t k) (apart_pages (Page t k) (Page s g) other)
        in let own = mirrors w h old tags t k accepted legal.1 stands
        in mirrors_left w h l tags tags (page_of old (Page t k)) (page_of new (Page t k)) t k
        (leaves_load w h by r p s t g k accepted legal is other)
        (looks_same (page_of old (Page t k)) (page_of new (Page t k)) kept)
        (ap cached.pin_in kept ∙ own.pin_is ∙ sym (pin_other w h by r p s t g k accepted legal is other))
        (ap (λ (z : Option Held). set_in same tags (cached.tag_in z)) kept) own

    stays : (t : Serial) (k : ℕ) → IsThere w l (Page t k) → (b : Bool) → same_buf (Page t k) (Page s g) ≡ b
        → Stays w h l old new (Page t k)
    stays t k there true here =
        let loads : is_loading w l (Page t k) ≡ true =
        (pages_change w h (Add by r) (Page t k) accepted legal).loading_is
        ∙ ap (λ b. b || is_loading w h (Page t k)) (reads_page r p s g (Page t k) is ∙ here)
        in absurd (both_ways (is_loading w l (Page t k)) there.loaded loads)
    stays t k there false other =
        let before = there_before w h l t k (leaves_load w h by r p s t g k accepted legal is other) there
        in let held : IsSome (page_of old (Page t k)) = there_held w h old tags t k stands before
        in record {
          there = before;
          touch = refl;
          was = held;
          is = ap is_some (begins.page.others (Page t k) (apart_pages (Page t k) (Page s g) other)) ∙ held;
        }

    alone : (b : Buf) → is_some (page_of new b) ≡ true → (t : Bool) → same_buf b (Page s g) ≡ t → IsDataPage b
    alone b held true here =
        subst IsDataPage (sym (same_buf-is b (Page s g) here)) fits.page.page
    alone b held false other =
        stands.pages_alone b (sym (ap is_some (begins.page.others b (apart_pages b (Page s g) other))) ∙ held)
