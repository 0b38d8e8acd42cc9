-- What the cache holds is what the history holds, after events that change no page but for its pin.
use Rattle.std.proofs.Common.{◌≡◌, ℕ, List, length, Bool, true, false, Option, None, is_some, IsSome, IsTrue, refl, ap, sym}
use Rattle.std.proofs.Common.{◌∙◌, if◌then◌else◌}
use Rattle.std.proofs.lemmas.Bool.{both_ways}
use Rattle.split_types.specs.declared.ids.Pid.{Pid}
use Rattle.split_types.specs.declared.ids.Serial.{Serial}
use Rattle.split_types.specs.declared.buf.Buf.{Buf}
use Rattle.split_types.specs.declared.buf.Buf.TheVariants.{Page}
use Rattle.split_types.specs.declared.call.Reply.{Reply}
use Rattle.split_types.specs.declared.workload.Workload.{Workload}
use Rattle.split_types.specs.declared.event.Event.{Event}
use Rattle.split_types.specs.declared.event.Event.TheVariants.{Get, Ret}
use Rattle.split_types.specs.History.{◌▹◌}
use Rattle.split_types.specs.Hooks.{same_buf}
use Rattle.split_types.specs.Reads.{other_than}
use Rattle.split_types.specs.HeldPages.{held_pages, unsettled_pages}
use Rattle.split_types.specs.Victims.{last_touch}
use Rattle.split_types.specs.PagesInCache.{CountsAre, IsThere, pin_of}
use Rattle.split_types.specs.Accepted.{IsAccepted}
use Rattle.split_types.specs.Legal.{IsLegal}
use Rattle.split_types.proofs.Shared.{same_buf-is}
use Rattle.split_types.proofs.Shared.{pages_change}
use Rattle.split_types.proofs.Shared.{pins_change}
use Rattle.split_types.proofs.Shared.{counts_change}
use Rattle.split_types.proofs.Shared.{running_causes}
use Rattle.cause_set.specs.Tags.{Tags, same, set_in}
use Rattle.page_cache.specs.Cached as cached
use Rattle.page_cache.specs.Cached.{Cached, page_of, held_in, unsettled_in, IsDataPage}
use Rattle.page_cache.specs.Changes.{ChangesEach, KeepsTouches, Touches, unpinned}
use Rattle.split_core.specs.Pages.{CacheStands}
use Rattle.split_core.proofs.PageFacts.{Mirrors, mirrors, Leaves, LooksAs, looks_same, looks_then, looks_unpinned}
use Rattle.split_core.proofs.PageFacts.{pin_unpinned, there_before, mirrors_left}
use Rattle.split_core.proofs.PageOrder.{Ordered, order_kept, order_touched}

-- ---- from all pages
-- nothing but pages of files is held
abbrev pub HoldsPages : Cached → Type 0
HoldsPages c = (b : Buf) → IsTrue (is_some (page_of c b)) → IsDataPage b

pub stands_by : (w : Workload) (h : List Event) (c : Cached) (tags : Tags) → c.limit ≡ w.cache
    → ((s : Serial) (g : ℕ) → Mirrors w h tags (page_of c (Page s g)) s g) → Ordered w h c
    → held_in c ≡ length (held_pages w h) → unsettled_in c ≡ length (unsettled_pages w h) → HoldsPages c
    → CacheStands w c tags h
stands_by w h c tags limit all order count unsettled alone = record {
  limit = limit;
  held_are = λ s g. (all s g).held_is;
  loading_are = λ s g. (all s g).loading_is;
  dirty_are = λ s g. (all s g).dirty_is;
  busy_are = λ s g. (all s g).busy_is;
  pins_are = λ s g held. (all s g).pin_is;
  causes_are = λ s g. (all s g).causes_is;
  bytes_are = λ s g. (all s g).bytes_is;
  order = order;
  held_counted = count;
  unsettled_counted = unsettled;
  pages_alone = alone;
}

-- what is there is held by the cache
pub there_held : (w : Workload) (h : List Event) (c : Cached) (tags : Tags) (s : Serial) (g : ℕ)
    → CacheStands w c tags h → IsThere w h (Page s g) → IsSome (page_of c (Page s g))
there_held w h c tags s g stands there = stands.held_are s g ∙ there.held

-- ---- all pages are left, but for their pins
-- from h to l each page is as it was, and its pin what the function makes of it; as many pages are held and unsettled
pub record Passes (w : Workload) (h l : List Event) (f : Option Pid → Option Pid) : Type 0 where
  pub leaves : (s : Serial) (g : ℕ) → Leaves w h l s g
  pub pins : (s : Serial) (g : ℕ) → pin_of w l (Page s g) ≡ f (pin_of w h (Page s g))
  pub counts : CountsAre w l (length (held_pages w h)) (length (unsettled_pages w h))

-- the caches too
pub record Follows (old new : Cached) (f : Option Pid → Option Pid) : Type 0 where
  pub looks : (b : Buf) → LooksAs (page_of old b) (page_of new b)
  pub pins : (b : Buf) → cached.pin_in (page_of new b) ≡ f (cached.pin_in (page_of old b))
  pub count : held_in new ≡ held_in old
  pub unsettled : unsettled_in new ≡ unsettled_in old
  pub limit : new.limit ≡ old.limit

pub pages_passed : (w : Workload) (h l : List Event) (f : Option Pid → Option Pid) (old new : Cached) (tags : Tags)
    → IsAccepted w → IsLegal w h → Passes w h l f → Follows old new f → Ordered w l new → CacheStands w old tags h
    → CacheStands w new tags l
pages_passed w h l f old new tags accepted legal passes follows order stands =
    stands_by w l new tags (follows.limit ∙ stands.limit) each order
    (follows.count ∙ stands.held_counted ∙ sym passes.counts.held_is)
    (follows.unsettled ∙ stands.unsettled_counted ∙ sym passes.counts.unsettled_is)
    (λ b held. stands.pages_alone b (sym (follows.looks b).held_is ∙ held))
  where
    each : (s : Serial) (g : ℕ) → Mirrors w l tags (page_of new (Page s g)) s g
    each s g =
        let m = mirrors w h old tags s g accepted legal stands
        in mirrors_left w h l tags tags (page_of old (Page s g)) (page_of new (Page s g)) s g (passes.leaves s g)
        (follows.looks (Page s g)) (follows.pins (Page s g) ∙ ap f m.pin_is ∙ sym (passes.pins s g))
        (ap (set_in same tags) (follows.looks (Page s g)).tag_is) m

-- from h to l no page that is there is touched
abbrev pub Untouched : Workload → List Event → List Event → Type 0
Untouched w h l = (s : Serial) (g : ℕ) → IsThere w l (Page s g) → last_touch l (Page s g) ≡ last_touch h (Page s g)

-- no page is touched either
pub order_passed : (w : Workload) (h l : List Event) (f : Option Pid → Option Pid) (old new : Cached) (tags : Tags)
    → Passes w h l f → Follows old new f → KeepsTouches old new → Untouched w h l → CacheStands w old tags h
    → Ordered w l new
order_passed w h l f old new tags passes follows keeps touch stands =
    order_kept w h l old new keeps
    (λ s g there. (let before = there_before w h l s g (passes.leaves s g) there
    in let held : IsSome (page_of old (Page s g)) = there_held w h old tags s g stands before
    in record {
      there = before;
      touch = touch s g there;
      was = held;
      is = (follows.looks (Page s g)).held_is ∙ held;
    }))
    stands.order

-- ---- a process pins nothing any more
pub follows_each : (old new : Cached) (by : Pid) → ChangesEach old new (λ k. unpinned by)
    → Follows old new (other_than by)
follows_each old new by each = record {
  looks = λ b. looks_unpinned by (page_of old b) (page_of new b) (each.pages b);
  pins = λ b. pin_unpinned by (page_of old b) (page_of new b) (each.pages b);
  count = each.count;
  unsettled = each.unsettled;
  limit = each.limit;
}

passes_ret : (w : Workload) (h : List Event) (by : Pid) (reply : Reply) → IsAccepted w → IsLegal w (h ▹ Ret by reply)
    → Passes w h (h ▹ Ret by reply) (other_than by)
passes_ret w h by reply accepted legal = record {
  leaves = λ s g. record {
    page = pages_change w h (Ret by reply) (Page s g) accepted legal;
    causes_are = running_causes.kept h (Ret by reply) (Page s g) refl refl;
    bytes_are = refl;
  };
  pins = λ s g. pins_change.change w h (Ret by reply) (Page s g) accepted legal;
  counts = counts_change w h (Ret by reply) accepted legal;
}

pub pages_ret : (w : Workload) (h : List Event) (by : Pid) (reply : Reply) (old new : Cached) (tags : Tags)
    → IsAccepted w → IsLegal w (h ▹ Ret by reply) → ChangesEach old new (λ k. unpinned by)
    → CacheStands w old tags h → CacheStands w new tags (h ▹ Ret by reply)
pages_ret w h by reply old new tags accepted legal each stands =
    let passes = passes_ret w h by reply accepted legal
    in let follows = follows_each old new by each
    in pages_passed w h (h ▹ Ret by reply) (other_than by) old new tags accepted legal.1 passes follows
    (order_passed w h (h ▹ Ret by reply) (other_than by) old new tags passes follows each.touches (λ s g there. refl) stands)
    stands

-- ---- a get
passes_get : (w : Workload) (h : List Event) (by : Pid) (s : Serial) (g from to sum : ℕ) → IsAccepted w
    → IsLegal w (h ▹ Get by s g from to sum) → Passes w h (h ▹ Get by s g from to sum) (other_than by)
passes_get w h by s g from to sum accepted legal = record {
  leaves = λ t k. record {
    page = pages_change w h (Get by s g from to sum) (Page t k) accepted legal;
    causes_are = running_causes.kept h (Get by s g from to sum) (Page t k) refl refl;
    bytes_are = refl;
  };
  pins = λ t k. pins_change.change w h (Get by s g from to sum) (Page t k) accepted legal;
  counts = counts_change w h (Get by s g from to sum) accepted legal;
}

pub follows_then : (old mid new : Cached) (f : Option Pid → Option Pid) → mid ≡ record old { touches = mid.touches }
    → Follows mid new f → Follows old new f
follows_then old mid new f is follows = record {
  looks = λ b. looks_then (page_of old b) (page_of mid b) (page_of new b)
      (looks_same (page_of old b) (page_of mid b) (ap (λ (c : Cached). page_of c b) is)) (follows.looks b);
  pins = λ b. follows.pins b ∙ ap (λ (c : Cached). f (cached.pin_in (page_of c b))) is;
  count = follows.count ∙ ap held_in is;
  unsettled = follows.unsettled ∙ ap unsettled_in is;
  limit = follows.limit ∙ ap (λ (c : Cached). c.limit) is;
}

pub pages_get : (w : Workload) (h : List Event) (by : Pid) (s : Serial) (g from to sum : ℕ) (old mid new : Cached)
    (tags : Tags) → IsAccepted w → IsLegal w (h ▹ Get by s g from to sum) → mid ≡ record old { touches = mid.touches }
    → Touches old mid (Page s g) → ChangesEach mid new (λ k. unpinned by) → CacheStands w old tags h
    → CacheStands w new tags (h ▹ Get by s g from to sum)
pages_get w h by s g from to sum old mid new tags accepted legal is touches each stands =
    pages_passed w h l (other_than by) old new tags accepted legal.1 passes follows
    (order_kept w l l mid new each.touches
    (λ t k there. record {
      there = there;
      touch = refl;
      was = held t k there;
      is = (second.looks (Page t k)).held_is ∙ held t k there;
    })
    (order_touched w h l old mid (Page s g) touches
    (λ t k there. record {
      is = held t k there;
      touch = refl;
      there = λ other. there_before w h l t k (passes.leaves t k) there;
    })
    stands.order))
    stands
  where
    l : List Event
    l = h ▹ Get by s g from to sum

    passes : Passes w h l (other_than by)
    passes = passes_get w h by s g from to sum accepted legal

    second : Follows mid new (other_than by)
    second = follows_each mid new by each

    follows : Follows old new (other_than by)
    follows = follows_then old mid new (other_than by) is second

    held : (t : Serial) (k : ℕ) → IsThere w l (Page t k) → IsSome (page_of mid (Page t k))
    held t k there =
        ap (λ (c : Cached). is_some (page_of c (Page t k))) is
        ∙ there_held w h old tags t k stands (there_before w h l t k (passes.leaves t k) there)

-- a get of a page that isn't held touches nothing
pub pages_hole : (w : Workload) (h : List Event) (by : Pid) (s : Serial) (g from to sum : ℕ) (old new : Cached)
    (tags : Tags) → IsAccepted w → IsLegal w (h ▹ Get by s g from to sum) → page_of old (Page s g) ≡ None
    → ChangesEach old new (λ k. unpinned by) → CacheStands w old tags h
    → CacheStands w new tags (h ▹ Get by s g from to sum)
pages_hole w h by s g from to sum old new tags accepted legal empty each stands =
    pages_passed w h l (other_than by) old new tags accepted legal.1 passes follows
    (order_passed w h l (other_than by) old new tags passes follows each.touches
    (λ t k there. untouched t k there (same_buf (Page t k) (Page s g)) refl) stands)
    stands
  where
    l : List Event
    l = h ▹ Get by s g from to sum

    passes : Passes w h l (other_than by)
    passes = passes_get w h by s g from to sum accepted legal

    follows : Follows old new (other_than by)
    follows = follows_each old new by each

    untouched : (t : Serial) (k : ℕ) → IsThere w l (Page t k) → (b : Bool) → same_buf (Page t k) (Page s g) ≡ b
        → last_touch l (Page t k) ≡ last_touch h (Page t k)
    untouched t k there true here =
        let held : IsSome (page_of old (Page t k)) =
        there_held w h old tags t k stands (there_before w h l t k (passes.leaves t k) there)
        in let out : is_some (page_of old (Page t k)) ≡ false =
        ap (λ b. is_some (page_of old b)) (same_buf-is (Page t k) (Page s g) here) ∙ ap is_some empty
        in absurd (both_ways (is_some (page_of old (Page t k))) out held)
    untouched t k there false other =
        ap (λ b. if b then length h else last_touch h (Page t k)) other

-- ---- events that change nothing of any page
pub pages_quiet : (w : Workload) (h : List Event) (e : Event) (c : Cached) (tags : Tags) → IsAccepted w
    → IsLegal w (h ▹ e) → Passes w h (h ▹ e) (λ o. o) → Untouched w h (h ▹ e) → CacheStands w c tags h
    → CacheStands w c tags (h ▹ e)
pages_quiet w h e c tags accepted legal passes touch stands =
    pages_passed w h (h ▹ e) (λ o. o) c c tags accepted legal.1 passes follows
    (order_passed w h (h ▹ e) (λ o. o) c c tags passes follows (λ k was is. refl) touch stands) stands
  where
    follows : Follows c c (λ o. o)
    follows = record {
      looks = λ b. looks_same (page_of c b) (page_of c b) refl;
      pins = λ b. refl;
      count = refl;
      unsettled = refl;
      limit = refl;
    }
