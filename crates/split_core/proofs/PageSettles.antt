-- What the cache holds is what the history holds, after a request that writes pages is done.
use Rattle.std.proofs.Common.{◌≡◌, ℕ, ◌+◌, ◌<◌, List, length, slice_get, Bool, true, false, not, ◌&&◌, Option}
use Rattle.std.proofs.Common.{Some, None, is_some, IsSome, refl, ap, sym, subst, ◌∙◌, arith, if◌then◌else◌}
use Rattle.std.specs.Prelude.{count_by}
use Rattle.std.specs.Option.{option_map}
use Rattle.split_types.specs.declared.ids.ReqId.{ReqId}
use Rattle.split_types.specs.declared.ids.Serial.{Serial}
use Rattle.split_types.specs.declared.buf.Buf.{Buf}
use Rattle.split_types.specs.declared.buf.Buf.TheVariants.{Page}
use Rattle.split_types.specs.declared.request.ReqKind.TheVariants.{Pages}
use Rattle.split_types.specs.declared.request.Request.{Request}
use Rattle.split_types.specs.declared.workload.Workload.{Workload}
use Rattle.split_types.specs.declared.event.Event.{Event}
use Rattle.split_types.specs.declared.event.Event.TheVariants.{Done}
use Rattle.split_types.specs.History.{◌▹◌}
use Rattle.split_types.specs.Hooks.{covers, is_among}
use Rattle.split_types.specs.Parents.{pages_of}
use Rattle.split_types.specs.Files.{is_live}
use Rattle.split_types.specs.Pages.{is_live_page, is_dirty, is_busy}
use Rattle.split_types.specs.Requests.{requests, is_write}
use Rattle.split_types.specs.Reads.{reads, is_loading}
use Rattle.split_types.specs.HeldPages.{is_held}
use Rattle.split_types.specs.Victims.{last_touch}
use Rattle.split_types.specs.PagesInCache.{PageIs, CountsDone, IsThere, pages_written}
use Rattle.split_types.specs.Accepted.{IsAccepted}
use Rattle.split_types.specs.Legal.{IsLegal}
use Rattle.split_types.proofs.Shared.{pages_change}
use Rattle.split_types.proofs.Shared.{pins_change}
use Rattle.split_types.proofs.Shared.{counts_change}
use Rattle.split_types.proofs.Shared.{touches_change}
use Rattle.split_types.proofs.Shared.{running_causes}
use Rattle.cause_set.specs.Tags.{Tags, same, set_in}
use Rattle.page_cache.specs.Held.{Held}
use Rattle.page_cache.specs.Cached as cached
use Rattle.page_cache.specs.Cached.{Cached, page_of}
use Rattle.page_cache.specs.Changes.{bytes_in, written}
use Rattle.split_core.specs.Pages.{CacheStands, Releases}
use Rattle.split_core.proofs.PageFacts.{Mirrors, mirrors}
use Rattle.split_core.proofs.PageOrder.{order_kept}
use Rattle.split_core.proofs.PageNotes.{stands_by, there_held}
use Rattle.split_core.proofs.PageRuns.{count_pages}

-- ---- a request that writes pages
pub reads_none : (r : Request) (s : Serial) (g : ℕ) (b : Buf) → r.kind ≡ Pages s g → reads r b ≡ false
reads_none r s g b is = rw is refl

pub covers_run : (r : Request) (s : Serial) (g : ℕ) (b : Buf) → r.kind ≡ Pages s g → covers r b ≡ is_among s g r.n b
covers_run r s g b is = rw is refl

pub writes_run : (r : Request) (s : Serial) (g : ℕ) → r.kind ≡ Pages s g → is_write r ≡ true
writes_run r s g is = rw is refl

written_run : (r : Request) (s : Serial) (g : ℕ) → r.kind ≡ Pages s g → pages_written r ≡ pages_of s g r.n
written_run r s g is = rw is refl

-- what is known of one that is done
pub record RunIs (w : Workload) (h : List Event) (k : ℕ) (id : ReqId) (ok : Bool) (r : Request) (s : Serial) (g : ℕ)
    : Type 0 where
  pub accepted : IsAccepted w
  pub legal : IsLegal w (h ▹ Done k id ok)
  pub at : slice_get (requests h) id.0 ≡ Some r
  pub kind : r.kind ≡ Pages s g
  -- its pages are busy while their file is there
  pub busy : (i : ℕ) → i < r.n → is_busy w h (Page s (g + i)) ≡ is_live w h s.0

after_run : (w : Workload) (h : List Event) (k : ℕ) (id : ReqId) (ok : Bool) (r : Request) (s : Serial) (g : ℕ)
    (b : Buf) → RunIs w h k id ok r s g
    → PageIs w (h ▹ Done k id ok) b (is_held w h b) (is_loading w h b) (is_dirty w h b)
    (not (is_among s g r.n b) && is_busy w h b)
after_run w h k id ok r s g b is =
    let after = pages_change w h (Done k id ok) b is.accepted is.legal r is.at
    in record {
      held_is = after.held_is;
      loading_is = after.loading_is ∙ ap (λ t. not t && is_loading w h b) (reads_none r s g b is.kind);
      dirty_is = after.dirty_is;
      busy_is = after.busy_is ∙ ap (λ t. not t && is_busy w h b) (covers_run r s g b is.kind);
    }

-- ---- a page
-- y is x, but that it isn't busy where it was written
pub record Written (t : Bool) (x y : Option Held) : Type 0 where
  pub held_is : is_some y ≡ is_some x
  pub loading_is : cached.is_loading y ≡ cached.is_loading x
  pub tag_is : cached.tag_in y ≡ cached.tag_in x
  pub busy_is : cached.is_busy y ≡ (not t && cached.is_busy x)
  pub pin_is : cached.pin_in y ≡ cached.pin_in x
  pub bytes_are : bytes_in y ≡ bytes_in x

written_by : (t : Bool) (x : Option Held) → Written t x (if t then option_map written x else x)
written_by true None =
    record { held_is = refl; loading_is = refl; tag_is = refl; busy_is = refl; pin_is = refl; bytes_are = refl }
written_by true (Some p) =
    record { held_is = refl; loading_is = refl; tag_is = refl; busy_is = refl; pin_is = refl; bytes_are = refl }
written_by false x =
    record { held_is = refl; loading_is = refl; tag_is = refl; busy_is = refl; pin_is = refl; bytes_are = refl }

written_as : (t : Bool) (x y : Option Held) → y ≡ (if t then option_map written x else x) → Written t x y
written_as t x y is = subst (Written t x) (sym is) (written_by t x)

settled_page : (w : Workload) (h : List Event) (k : ℕ) (id : ReqId) (ok : Bool) (r : Request) (s t : Serial) (g m : ℕ)
    (tags : Tags) (x y : Option Held) → RunIs w h k id ok r s g → Written (is_among s g r.n (Page t m)) x y
    → Mirrors w h tags x t m → Mirrors w (h ▹ Done k id ok) tags y t m
settled_page w h k id ok r s t g m tags x y is done own =
    let after = after_run w h k id ok r s g (Page t m) is
    in record {
      held_is = done.held_is ∙ own.held_is ∙ sym after.held_is;
      loading_is = done.loading_is ∙ own.loading_is ∙ sym after.loading_is;
      dirty_is = ap is_some done.tag_is ∙ own.dirty_is ∙ sym after.dirty_is;
      busy_is = done.busy_is ∙ ap (λ b. not (is_among s g r.n (Page t m)) && b) own.busy_is ∙ sym after.busy_is;
      pin_is = done.pin_is ∙ own.pin_is
          ∙ sym (pins_change.change w h (Done k id ok) (Page t m) is.accepted is.legal);
      causes_is = ap (set_in same tags) done.tag_is ∙ own.causes_is
          ∙ sym (running_causes.kept h (Done k id ok) (Page t m) refl refl);
      bytes_is = λ there. done.bytes_are ∙ own.bytes_is record {
        held = sym after.held_is ∙ there.held;
        loaded = sym after.loading_is ∙ there.loaded;
      };
    }

-- ---- a request that writes pages is done
pub pages_settled : (w : Workload) (h : List Event) (k : ℕ) (id : ReqId) (ok : Bool) (r : Request) (s : Serial) (g : ℕ)
    (old new : Cached) (tags : Tags) → RunIs w h k id ok r s g → Releases old new s g r.n → CacheStands w old tags h
    → CacheStands w new tags (h ▹ Done k id ok)
pages_settled w h k id ok r s g old new tags is releases stands =
    stands_by w l new tags (releases.limit ∙ stands.limit)
    (λ t m. settled_page w h k id ok r s t g m tags (page_of old (Page t m)) (page_of new (Page t m)) is
    (becomes (Page t m)) (mirrors w h old tags t m is.accepted is.legal.1 stands))
    (order_kept w h l old new releases.touches
    (λ t m there. (let after = after_run w h k id ok r s g (Page t m) is
    in let before : IsThere w h (Page t m) =
    record { held = sym after.held_is ∙ there.held; loaded = sym after.loading_is ∙ there.loaded }
    in let held : IsSome (page_of old (Page t m)) = there_held w h old tags t m stands before
    in record {
      there = before;
      touch = touches_change.change w h (Done k id ok) (Page t m) is.accepted is.legal r is.at
          ∙ ap (λ b. if b then length h else last_touch h (Page t m)) (reads_none r s g (Page t m) is.kind);
      was = held;
      is = (becomes (Page t m)).held_is ∙ held;
    }))
    stands.order)
    (releases.count ∙ stands.held_counted ∙ sym counts.held_is)
    (omega (arith, releases.settled, stands.unsettled_counted, counts.settled_is, clean))
    (λ b there. stands.pages_alone b (sym (becomes b).held_is ∙ there))
  where
    l : List Event
    l = h ▹ Done k id ok

    becomes : (b : Buf) → Written (is_among s g r.n b) (page_of old b) (page_of new b)
    becomes b = written_as (is_among s g r.n b) (page_of old b) (page_of new b) (releases.pages b)

    counts : CountsDone w h l r
    counts = counts_change w h (Done k id ok) is.accepted is.legal r is.at

    clean : count_by (λ b. cached.is_busy (page_of old b) && not (is_some (cached.tag_in (page_of old b))))
        (pages_of s g r.n)
        ≡ count_by (λ b. is_live_page w h b && not (is_dirty w h b)) (pages_written r)
    clean = count_pages (λ b. cached.is_busy (page_of old b) && not (is_some (cached.tag_in (page_of old b))))
        (λ b. is_live_page w h b && not (is_dirty w h b)) s g r.n
        (λ i low. ap (λ t. t && not (is_some (cached.tag_in (page_of old (Page s (g + i))))))
        (stands.busy_are s (g + i) ∙ is.busy i low)
        ∙ ap (λ t. is_live w h s.0 && not t) (stands.dirty_are s (g + i)))
        ∙ ap (count_by (λ b. is_live_page w h b && not (is_dirty w h b))) (sym (written_run r s g is.kind))
