-- What the cache holds is what the history holds, after a request that writes pages is added.
use Rattle.std.proofs.Common.{◌≡◌, ℕ, ◌+◌, ◌<◌, List, [], ◌∷◌, length, Bool, true, false, not, ◌&&◌, ◌||◌, Option}
use Rattle.std.proofs.Common.{Some, None, is_some, IsSome, refl, ap, sym, subst, ◌∙◌, if◌then◌else◌}
use Rattle.std.specs.Option.{option_map}
use Rattle.std.proofs.lemmas.Bool.{and_parts}
use Rattle.split_types.specs.declared.ids.Serial.{Serial}
use Rattle.split_types.specs.declared.buf.Buf.{Buf}
use Rattle.split_types.specs.declared.buf.Buf.TheVariants.{Page}
use Rattle.split_types.specs.declared.actor.Actor.{Actor}
use Rattle.split_types.specs.declared.request.ReqKind.TheVariants.{Pages}
use Rattle.split_types.specs.declared.request.Request.{Request}
use Rattle.split_types.specs.declared.workload.Workload.{Workload}
use Rattle.split_types.specs.declared.event.Event.{Event}
use Rattle.split_types.specs.declared.event.Event.TheVariants.{Add}
use Rattle.split_types.specs.History.{◌▹◌}
use Rattle.split_types.specs.Hooks.{is_among}
use Rattle.split_types.specs.Blame.{causes}
use Rattle.split_types.specs.Pages.{is_dirty, is_busy, is_ready}
use Rattle.split_types.specs.Requests.{is_write}
use Rattle.split_types.specs.Reads.{reads_for, is_loading}
use Rattle.split_types.specs.HeldPages.{is_held, held_pages, unsettled_pages}
use Rattle.split_types.specs.PagesInCache.{PageIs, CountsAre, IsThere, pin_of}
use Rattle.split_types.specs.Accepted.{IsAccepted}
use Rattle.split_types.specs.Legal.{IsLegal}
use Rattle.split_types.proofs.Shared.{among_at}
use Rattle.split_types.proofs.Shared.{pages_change}
use Rattle.split_types.proofs.Shared.{pins_change}
use Rattle.split_types.proofs.Shared.{counts_change}
use Rattle.split_types.proofs.Shared.{running_causes}
use Rattle.cause_set.specs.Tags.{Tags, same, set_in}
use Rattle.page_cache.specs.Held.{Held}
use Rattle.page_cache.specs.Cached as cached
use Rattle.page_cache.specs.Cached.{Cached, page_of, causes_of}
use Rattle.page_cache.specs.Changes.{ChangesEach, bytes_in, taken, taken_among}
use Rattle.split_core.specs.Pages.{CacheStands}
use Rattle.split_core.proofs.PageFacts.{Mirrors, mirrors}
use Rattle.split_core.proofs.PageOrder.{order_kept}
use Rattle.split_core.proofs.PageNotes.{stands_by, there_held}
use Rattle.split_core.proofs.PageSettles.{reads_none, covers_run, writes_run}

-- what is known of a request for pages that is added
pub record TakesIs (w : Workload) (h : List Event) (by : Actor) (r : Request) (s : Serial) (g : ℕ) : Type 0 where
  pub accepted : IsAccepted w
  pub legal : IsLegal w (h ▹ Add by r)
  pub kind : r.kind ≡ Pages s g
  pub ready : (k : ℕ) → k < r.n → is_ready w h (Page s (g + k)) ≡ true

after_take : (w : Workload) (h : List Event) (by : Actor) (r : Request) (s : Serial) (g : ℕ) (b : Buf)
    → TakesIs w h by r s g
    → PageIs w (h ▹ Add by r) b (is_held w h b) (is_loading w h b) (not (is_among s g r.n b) && is_dirty w h b)
    (is_among s g r.n b || is_busy w h b)
after_take w h by r s g b is =
    let after = pages_change w h (Add by r) b is.accepted is.legal
    in let free = reads_none r s g b is.kind
    in let run = covers_run r s g b is.kind
    in record {
      held_is = after.held_is ∙ ap (λ t. t || is_held w h b) free;
      loading_is = after.loading_is ∙ ap (λ t. t || is_loading w h b) free;
      dirty_is = after.dirty_is ∙ ap (λ t. not t && is_dirty w h b) run;
      busy_is = after.busy_is ∙ ap (λ t. t || is_busy w h b) run;
    }

-- ---- a page
-- y is x, but that it is clean and busy where it was taken
pub record TakenAs (t : Bool) (x y : Option Held) : Type 0 where
  pub held_is : is_some y ≡ is_some x
  pub loading_is : cached.is_loading y ≡ cached.is_loading x
  pub dirty_is : is_some (cached.tag_in y) ≡ (not t && is_some (cached.tag_in x))
  pub none : t ≡ true → cached.tag_in y ≡ None
  pub busy_is : cached.is_busy y ≡ (t || cached.is_busy x)
  pub pin_is : cached.pin_in y ≡ cached.pin_in x
  pub bytes_are : bytes_in y ≡ bytes_in x

taken_by : (t : Bool) (x : Option Held) → (t ≡ true → is_some x ≡ true)
    → TakenAs t x (option_map (λ p. if t then taken p else p) x)
taken_by true None held = absurd (none_there (held refl))
  where
    none_there : is_some {T = Held} None ≡ true → ⊥
    none_there is = absurd (cc)
taken_by true (Some p) held = record {
  held_is = refl;
  loading_is = refl;
  dirty_is = refl;
  none = λ is. refl;
  busy_is = refl;
  pin_is = refl;
  bytes_are = refl;
}
taken_by false None held = record {
  held_is = refl;
  loading_is = refl;
  dirty_is = refl;
  none = λ is. refl;
  busy_is = refl;
  pin_is = refl;
  bytes_are = refl;
}
taken_by false (Some p) held = record {
  held_is = refl;
  loading_is = refl;
  dirty_is = refl;
  none = λ is. absurd (cc);
  busy_is = refl;
  pin_is = refl;
  bytes_are = refl;
}

-- a page of the run is held
run_held : (w : Workload) (h : List Event) (by : Actor) (r : Request) (s : Serial) (g : ℕ) (c : Cached) (tags : Tags)
    (b : Buf) → TakesIs w h by r s g → CacheStands w c tags h → is_among s g r.n b ≡ true
    → is_some (page_of c b) ≡ true
run_held w h by r s g c tags b is stands among =
    let at = among_at s g r.n b among
    in let dirty = (and_parts (is_dirty w h (Page s (g + at.after))) (not (is_busy w h (Page s (g + at.after))))
    (is.ready at.after at.below)).0
    in ap (λ d. is_some (page_of c d)) at.is
    ∙ tagged (page_of c (Page s (g + at.after))) (stands.dirty_are s (g + at.after) ∙ dirty)
  where
    tagged : (x : Option Held) → is_some (cached.tag_in x) ≡ true → is_some x ≡ true
    tagged None has = absurd (cc)
    tagged (Some p) has = refl

-- ---- causes
taken_causes : (w : Workload) (h : List Event) (by : Actor) (r : Request) (s : Serial) (g : ℕ) (b : Buf)
    → TakesIs w h by r s g → is_among s g r.n b ≡ true → causes (h ▹ Add by r) (b ∷ []) ≡ []
taken_causes w h by r s g b is among =
    running_causes.ended h (Add by r) b refl (covers_run r s g b is.kind ∙ among)

kept_causes : (w : Workload) (h : List Event) (by : Actor) (r : Request) (s : Serial) (g : ℕ) (b : Buf)
    → TakesIs w h by r s g → is_among s g r.n b ≡ false → causes (h ▹ Add by r) (b ∷ []) ≡ causes h (b ∷ [])
kept_causes w h by r s g b is other =
    running_causes.kept h (Add by r) b refl (covers_run r s g b is.kind ∙ other)

taken_page : (w : Workload) (h : List Event) (by : Actor) (r : Request) (s t : Serial) (g m : ℕ) (before after : Tags)
    (x y : Option Held) → TakesIs w h by r s g → TakenAs (is_among s g r.n (Page t m)) x y
    → (is_among s g r.n (Page t m) ≡ false
    → set_in same after (cached.tag_in y) ≡ set_in same before (cached.tag_in x))
    → Mirrors w h before x t m → Mirrors w (h ▹ Add by r) after y t m
taken_page w h by r s t g m before after x y is takes set own =
    let now = after_take w h by r s g (Page t m) is
    in record {
      held_is = takes.held_is ∙ own.held_is ∙ sym now.held_is;
      loading_is = takes.loading_is ∙ own.loading_is ∙ sym now.loading_is;
      dirty_is = takes.dirty_is ∙ ap (λ b. not (is_among s g r.n (Page t m)) && b) own.dirty_is ∙ sym now.dirty_is;
      busy_is = takes.busy_is ∙ ap (λ b. is_among s g r.n (Page t m) || b) own.busy_is ∙ sym now.busy_is;
      pin_is = takes.pin_is ∙ own.pin_is
          ∙ sym (pins_change.change w h (Add by r) (Page t m) is.accepted is.legal
          ∙ ap (λ b. if b then reads_for r else pin_of w h (Page t m)) (reads_none r s g (Page t m) is.kind));
      causes_is = by_test (is_among s g r.n (Page t m)) refl;
      bytes_is = λ there. takes.bytes_are ∙ own.bytes_is record {
        held = sym now.held_is ∙ there.held;
        loaded = sym now.loading_is ∙ there.loaded;
      };
    }
  where
    by_test : (b : Bool) → is_among s g r.n (Page t m) ≡ b
        → set_in same after (cached.tag_in y) ≡ causes (h ▹ Add by r) (Page t m ∷ [])
    by_test true among =
        ap (set_in same after) (takes.none among) ∙ sym (taken_causes w h by r s g (Page t m) is among)
    by_test false other = set other ∙ own.causes_is ∙ sym (kept_causes w h by r s g (Page t m) is other)

-- ---- a request for pages is added
pub pages_taken : (w : Workload) (h : List Event) (by : Actor) (r : Request) (s : Serial) (g : ℕ) (old new : Cached)
    (before after : Tags) → TakesIs w h by r s g → ChangesEach old new (taken_among s g r.n)
    → ((b : Buf) → is_among s g r.n b ≡ false → causes_of after new b ≡ causes_of before old b)
    → CacheStands w old before h → CacheStands w new after (h ▹ Add by r)
pages_taken w h by r s g old new before after is each set stands =
    stands_by w l new after (each.limit ∙ stands.limit)
    (λ t m. taken_page w h by r s t g m before after (page_of old (Page t m)) (page_of new (Page t m)) is
    (becomes (Page t m)) (set (Page t m)) (mirrors w h old before t m is.accepted is.legal.1 stands))
    (order_kept w h l old new each.touches
    (λ t m there. (let now = after_take w h by r s g (Page t m) is
    in let was : IsThere w h (Page t m) =
    record { held = sym now.held_is ∙ there.held; loaded = sym now.loading_is ∙ there.loaded }
    in let held : IsSome (page_of old (Page t m)) = there_held w h old before t m stands was
    in record {
      there = was;
      touch = refl;
      was = held;
      is = (becomes (Page t m)).held_is ∙ held;
    }))
    stands.order)
    (each.count ∙ stands.held_counted
    ∙ sym (counts.held_is
    ∙ ap (λ b. if b then length (held_pages w h) else length (held_pages w h) + 1) (writes_run r s g is.kind)))
    (each.unsettled ∙ stands.unsettled_counted ∙ sym counts.unsettled_is)
    (λ b there. stands.pages_alone b (sym (becomes b).held_is ∙ there))
  where
    l : List Event
    l = h ▹ Add by r

    becomes : (b : Buf) → TakenAs (is_among s g r.n b) (page_of old b) (page_of new b)
    becomes b = subst (TakenAs (is_among s g r.n b) (page_of old b)) (sym (each.pages b))
        (taken_by (is_among s g r.n b) (page_of old b) (run_held w h by r s g old before b is stands))

    counts : CountsAre w l (if is_write r then length (held_pages w h) else length (held_pages w h) + 1)
        (length (unsettled_pages w h))
    counts = counts_change w h (Add by r) is.accepted is.legal
