-- What the cache that is kept has to do with a history.
use Rattle.std.specs.Prelude.{◌≡◌, ℕ, ◌+◌, ◌<◌, ◌≤◌, List, [], ◌∷◌, length, slice_get, count_by, is_some, Some, not, ◌&&◌}
use Rattle.std.specs.Prelude.{if◌then◌else◌, true, IsTrue, IsFalse}
use Rattle.split_types.specs.declared.ids.Pid.{Pid}
use Rattle.split_types.specs.declared.ids.Serial.{Serial}
use Rattle.split_types.specs.declared.buf.Buf.{Buf}
use Rattle.split_types.specs.declared.buf.Buf.TheVariants.{Page}
use Rattle.split_types.specs.declared.workload.Workload.{Workload}
use Rattle.split_types.specs.declared.event.Event.{Event}
use Rattle.split_types.specs.Blame.{causes}
use Rattle.split_types.specs.Pages.{is_dirty, is_busy}
use Rattle.split_types.specs.Reads.{is_loading}
use Rattle.split_types.specs.HeldPages.{is_held, held_pages, unsettled_pages}
use Rattle.split_types.specs.Victims.{last_touch}
use Rattle.split_types.specs.PageBytes.{page_bytes}
use Rattle.split_types.specs.PagesInCache.{IsThere, pin_of}
use Rattle.split_types.specs.Accepted.{IsAccepted}
use Rattle.cause_set.specs.Tags.{Tags, Moved, held, same}
use Rattle.journal_core.specs.Causes.{Covered}
use Rattle.page_cache.specs.Cached as cached
use Rattle.page_cache.specs.Cached.{Cached}
use Rattle.page_cache.specs.Changes.{ChangesOnly, ChangesEach, Touches, KeepsTouches, bytes_in, loaded, written, unpinned}
use Rattle.std.specs.Option.{option_map}
use Rattle.split_types.specs.declared.request.Request.{Request}
use Rattle.split_types.specs.declared.event.Event.TheVariants.{Done}
use Rattle.split_types.specs.Requests.{requests}
use Rattle.split_types.specs.Hooks.{is_among}
use Rattle.split_types.specs.Parents.{pages_of}
use Rattle.split_core.specs.Asks.{asks}
use Rattle.split_core.specs.Fits.{Fits}
use Rattle.split_core.specs.declared.note.pages.Pages.{Pages}

-- what is held is what the history holds
pub record CacheStands (w : Workload) (c : Cached) (tags : Tags) (h : List Event) : Type 0 where
  pub limit : c.limit ≡ w.cache
  pub held_are : (s : Serial) (g : ℕ) → is_some (cached.page_of c (Page s g)) ≡ is_held w h (Page s g)
  pub loading_are : (s : Serial) (g : ℕ) → cached.is_loading (cached.page_of c (Page s g)) ≡ is_loading w h (Page s g)
  pub dirty_are : (s : Serial) (g : ℕ)
      → is_some (cached.tag_in (cached.page_of c (Page s g))) ≡ is_dirty w h (Page s g)
  pub busy_are : (s : Serial) (g : ℕ) → cached.is_busy (cached.page_of c (Page s g)) ≡ is_busy w h (Page s g)
  pub pins_are : (s : Serial) (g : ℕ) → IsTrue (is_held w h (Page s g))
      → cached.pin_in (cached.page_of c (Page s g)) ≡ pin_of w h (Page s g)
  pub causes_are : (s : Serial) (g : ℕ) → cached.causes_of tags c (Page s g) ≡ causes h (Page s g ∷ [])
  pub bytes_are : (s : Serial) (g : ℕ) → IsThere w h (Page s g)
      → bytes_in (cached.page_of c (Page s g)) ≡ page_bytes w h s g
  -- of two pages the one that was touched earlier is the one of the lesser touch
  pub order : (s t : Serial) (g k : ℕ) → IsThere w h (Page s g) → IsThere w h (Page t k)
      → last_touch h (Page s g) < last_touch h (Page t k)
      → cached.touch_of c (Page s g) < cached.touch_of c (Page t k)
  pub held_counted : cached.held_in c ≡ length (held_pages w h)
  pub unsettled_counted : cached.unsettled_in c ≡ length (unsettled_pages w h)
  -- nothing but pages of files is held
  pub pages_alone : (b : Buf) → IsTrue (is_some (cached.page_of c b)) → cached.IsDataPage b

abbrev pub PagesStand : Workload → Pages → Tags → List Event → Type 0
PagesStand w p tags h = CacheStands w p.cache tags h

-- the uses of tags that pages hold
abbrev pub held_by_pages : Pages → ℕ → ℕ
held_by_pages p n = held same (cached.tags_in p.cache) n

-- there is room for one more event
pub record HasPagesRoom (p : Pages) (store : Tags) : Type 0 where
  pub cache : 0 < p.cache.spare
  pub tags : 16 ≤ store.spare

-- before the event e: the cache stands for h, e fits, and there is room for it
pub record PagesBefore (w : Workload) (p : Pages) (store : Tags) (h : List Event) (e : Event) : Type 0 where
  pub accepted : IsAccepted w
  pub stands : PagesStand w p store h
  pub tags : Covered (held_by_pages p) store
  pub fits : Fits w h e
  pub room : asks e ≡ true → HasPagesRoom p store

-- after it: the cache stands for the history with it, and tags came and went with their pages
pub record PagesAfter (w : Workload) (old new : Pages) (before after : Tags) (h : List Event) : Type 0 where
  pub stands : PagesStand w new after h
  pub tags : Moved before after (held_by_pages old) (held_by_pages new)

-- the request is the one that the event says is done
abbrev pub IsDoneOf : List Event → Event → Request → Type 0
IsDoneOf h (Done k id ok) r = slice_get (requests h) id.0 ≡ Some r
IsDoneOf h e r = ⊥

-- the n pages of a file from this one on aren't busy any more; those that were, and aren't dirty, are settled
pub record Releases (old new : Cached) (s : Serial) (page n : ℕ) : Type 0 where
  pub pages : (b : Buf) → cached.page_of new b
      ≡ (if is_among s page n b then option_map written (cached.page_of old b) else cached.page_of old b)
  pub count : cached.held_in new ≡ cached.held_in old
  pub settled : cached.unsettled_in new
      + count_by (λ b. cached.is_busy (cached.page_of old b) && not (is_some (cached.tag_in (cached.page_of old b))))
      (pages_of s page n)
      ≡ cached.unsettled_in old
  pub tags : (m : ℕ) → held same (cached.tags_in new) m ≡ held same (cached.tags_in old) m
  pub limit : new.limit ≡ old.limit
  pub touches : KeepsTouches old new

-- a page that is loading has these bytes; if it isn't loading, nothing changes
pub record Loads (old new : Cached) (b : Buf) (bytes : List ℕ) : Type 0 where
  pub page : IsTrue (cached.is_loading (cached.page_of old b))
      → ChangesOnly old new b (option_map (loaded bytes) (cached.page_of old b))
  pub touched : IsTrue (cached.is_loading (cached.page_of old b)) → Touches old new b
  pub still : IsFalse (cached.is_loading (cached.page_of old b)) → new ≡ old

-- a page that is held is touched; if it isn't held, nothing changes
pub record TouchesHeld (old new : Cached) (b : Buf) : Type 0 where
  pub rest : new ≡ record old { touches = new.touches }
  pub touched : IsTrue (is_some (cached.page_of old b)) → Touches old new b
  pub still : IsFalse (is_some (cached.page_of old b)) → new ≡ old

-- then the process pins nothing any more
pub record Gets (old new : Cached) (b : Buf) (by : Pid) : Type 0 where
  pub mid : Cached
  pub touches : TouchesHeld old mid b
  pub pages : ChangesEach mid new (λ k. unpinned by)
  pub tags : cached.tags_in new ≡ cached.tags_in mid
