-- How the pages of a cache change with each event: which are held, loading, dirty or busy, for which process each is
-- pinned, when each was touched last, and how many there are.
use Rattle.std.specs.Prelude.{◌≡◌, ℕ, ◌+◌, ◌==◌, ◌<◌, ◌≤◌, List, [], length, slice_get, find, count_by, Bool, false, not, ◌&&◌, ◌||◌, is_some, Option, Some, None, if◌then◌else◌, IsTrue, IsFalse}
use Rattle.split_types.specs.declared.ids.Pid.{Pid}
use Rattle.split_types.specs.declared.ids.Serial.{Serial}
use Rattle.split_types.specs.declared.buf.Buf.{Buf}
use Rattle.split_types.specs.declared.buf.Buf.TheVariants.{Page}
use Rattle.split_types.specs.declared.request.ReqKind.{ReqKind}
use Rattle.split_types.specs.declared.request.ReqKind.TheVariants.{Pages}
use Rattle.split_types.specs.declared.request.Request.{Request}
use Rattle.split_types.specs.declared.workload.Workload.{Workload}
use Rattle.split_types.specs.declared.event.Event.{Event}
use Rattle.split_types.specs.declared.event.Event.TheVariants.{Put, Get, Drop, Ret, Add, Done, Evict}
use Rattle.split_types.specs.History.{◌▹◌}
use Rattle.split_types.specs.Hooks.{same_buf, covers}
use Rattle.split_types.specs.Requests.{is_write, requests}
use Rattle.split_types.specs.FileMaps.{mapped_block}
use Rattle.split_types.specs.FilesInOrder.{all_files}
use Rattle.split_types.specs.Parents.{pages_of}
use Rattle.split_types.specs.Pages.{is_live_page, is_dirty, is_busy}
use Rattle.split_types.specs.Reads.{reads, reads_for, outstanding, is_loading, other_than, reader_of}
use Rattle.split_types.specs.HeldPages.{is_placed, is_held, is_unsettled, held_pages, unsettled_pages}
use Rattle.split_types.specs.Victims.{last_touch, pinned_by, is_evictable}
use Rattle.split_types.specs.Accepted.{IsAccepted}
use Rattle.split_types.specs.Legal.{IsLegal}

-- ---- held, loading, dirty, busy
-- the buffer is a page of this file
abbrev pub is_page_of : Serial → Buf → Bool
is_page_of s (Page t g) = s.0 == t.0
is_page_of s _ = false

-- after h the page is held, loading, dirty and busy where these say so
pub record PageIs (w : Workload) (h : List Event) (b : Buf) (held loading dirty busy : Bool) : Type 0 where
  pub held_is : is_held w h b ≡ held
  pub loading_is : is_loading w h b ≡ loading
  pub dirty_is : is_dirty w h b ≡ dirty
  pub busy_is : is_busy w h b ≡ busy

-- what an event makes of the page b. A put holds and dirties its page; a request that reads b loads and holds it; one
-- that writes b takes it, so that it is busy and no longer dirty; a request that is done leaves b neither loading nor
-- busy for it; an eviction lets its page go; a drop lets all pages of its file go, which are neither loading, dirty nor
-- busy then. All else stays
abbrev pub PageAfter : Workload → List Event → Event → Buf → Type 0
PageAfter w h (Put by s g from to fill) b =
    PageIs w (h ▹ Put by s g from to fill) b (same_buf b (Page s g) || is_held w h b) (is_loading w h b)
    (same_buf b (Page s g) || is_dirty w h b) (is_busy w h b)
PageAfter w h (Add by r) b =
    PageIs w (h ▹ Add by r) b (reads r b || is_held w h b) (reads r b || is_loading w h b)
    (not (covers r b) && is_dirty w h b) (covers r b || is_busy w h b)
PageAfter w h (Done k id ok) b =
    (r : Request) → slice_get (requests h) id.0 ≡ Some r
    → PageIs w (h ▹ Done k id ok) b (is_held w h b) (not (reads r b) && is_loading w h b) (is_dirty w h b)
    (not (covers r b) && is_busy w h b)
PageAfter w h (Evict by s g) b =
    PageIs w (h ▹ Evict by s g) b (not (same_buf b (Page s g)) && is_held w h b) (is_loading w h b) (is_dirty w h b)
    (is_busy w h b)
PageAfter w h (Drop by slot s) b =
    PageIs w (h ▹ Drop by slot s) b (not (is_page_of s b) && is_held w h b) (not (is_page_of s b) && is_loading w h b)
    (not (is_page_of s b) && is_dirty w h b) (not (is_page_of s b) && is_busy w h b)
PageAfter w h e b = PageIs w (h ▹ e) b (is_held w h b) (is_loading w h b) (is_dirty w h b) (is_busy w h b)

-- each event of a legal history does so to each page
abbrev pub PagesChange : Type 0
PagesChange =
    (w : Workload) (h : List Event) (e : Event) (b : Buf) → IsAccepted w → IsLegal w (h ▹ e) → PageAfter w h e b

-- ---- what is dirty or busy is held
-- the page was put or loaded, and not evicted since; so it is held
pub record IsPlaced (w : Workload) (h : List Event) (b : Buf) : Type 0 where
  pub placed : IsTrue (is_placed h b)
  pub held : IsTrue (is_held w h b)

abbrev pub UnsettledAreHeld : Type 0
UnsettledAreHeld =
    (w : Workload) (h : List Event) (b : Buf) → IsAccepted w → IsLegal w h → IsTrue (is_unsettled w h b)
    → IsPlaced w h b

-- ---- pages that are loading
-- the page was neither put nor loaded since it was evicted, and is neither dirty nor busy
pub record IsOnlyLoading (w : Workload) (h : List Event) (b : Buf) : Type 0 where
  pub unplaced : IsFalse (is_placed h b)
  pub clean : IsFalse (is_dirty w h b)
  pub idle : IsFalse (is_busy w h b)

-- the request reads one page, this one of a file that is there or was, from its block
pub record ReadsBlock (w : Workload) (h : List Event) (r : Request) (b : Buf) : Type 0 where
  pub serial : Serial
  pub page : ℕ
  pub is : b ≡ Page serial page
  pub file : serial.0 < all_files w h
  pub within : page < 1008
  pub one : r.n ≡ 1
  pub place : mapped_block w h serial.0 page ≡ Some r.first

-- a page that is loading is nothing else; no two requests that aren't done read one page; and what a request reads is
-- a page that a file may have
pub record LoadingPages : Type 0 where
  pub only : (w : Workload) (h : List Event) (b : Buf) → IsAccepted w → IsLegal w h → IsTrue (is_loading w h b)
      → IsOnlyLoading w h b
  pub once : (w : Workload) (h : List Event) (b : Buf) → IsAccepted w → IsLegal w h
      → count_by (λ r. reads r b) (outstanding h) ≤ 1
  pub blocks : (w : Workload) (h : List Event) (i : ℕ) (r : Request) (b : Buf) → IsAccepted w → IsLegal w h
      → slice_get (requests h) i ≡ Some r → IsTrue (reads r b) → ReadsBlock w h r b

-- ---- the process that a page waits for
-- the process that waits for a page that is loading: its call added the read of the page that isn't done, and didn't
-- return since
abbrev pub waits_for : List Event → Buf → Option Pid
waits_for h b = elim (find (λ r. reads r b) (outstanding h)) [ None ↦ None | Some r ↦ reader_of h r.id ]

-- the process for which the page stays in the cache while its file is there: the one that waits for it while it is
-- loading, and from then on the one that pins it
abbrev pub pin_of : Workload → List Event → Buf → Option Pid
pin_of w h b = if is_live_page w h b then (if is_loading w h b then waits_for h b else pinned_by h b) else None

-- what an event makes of that process: a put, get or return of a process frees the page that was kept for it; a request
-- that reads b keeps it for its process; a drop frees all pages of its file. All else stays
abbrev pub PinAfter : Workload → List Event → Event → Buf → Type 0
PinAfter w h (Put by s g from to fill) b = pin_of w (h ▹ Put by s g from to fill) b ≡ other_than by (pin_of w h b)
PinAfter w h (Get by s g from to sum) b = pin_of w (h ▹ Get by s g from to sum) b ≡ other_than by (pin_of w h b)
PinAfter w h (Ret by reply) b = pin_of w (h ▹ Ret by reply) b ≡ other_than by (pin_of w h b)
PinAfter w h (Add by r) b = pin_of w (h ▹ Add by r) b ≡ (if reads r b then reads_for r else pin_of w h b)
PinAfter w h (Drop by slot s) b =
    pin_of w (h ▹ Drop by slot s) b ≡ (if is_page_of s b then None else pin_of w h b)
PinAfter w h e b = pin_of w (h ▹ e) b ≡ pin_of w h b

-- p is a process of the workload, and the page is held
pub record IsKeptFor (w : Workload) (h : List Event) (b : Buf) (p : Pid) : Type 0 where
  pub first : 1 ≤ p.0
  pub last : p.0 ≤ length w.procs
  pub held : IsTrue (is_held w h b)

-- each event of a legal history does so to each page. A page is kept for a process only where it is held, and for each
-- process one page at most is kept. A page may be evicted where it is held and neither dirty, busy, loading nor kept
pub record PinsChange : Type 0 where
  pub change : (w : Workload) (h : List Event) (e : Event) (b : Buf) → IsAccepted w → IsLegal w (h ▹ e)
      → PinAfter w h e b
  pub kept : (w : Workload) (h : List Event) (b : Buf) (p : Pid) → IsAccepted w → IsLegal w h
      → pin_of w h b ≡ Some p → IsKeptFor w h b p
  pub one : (w : Workload) (h : List Event) (b c : Buf) (p : Pid) → IsAccepted w → IsLegal w h
      → pin_of w h b ≡ Some p → pin_of w h c ≡ Some p → b ≡ c
  pub free : (w : Workload) (h : List Event) (b : Buf)
      → is_evictable w h b
      ≡ (is_held w h b && not (is_unsettled w h b || is_loading w h b || is_some (pin_of w h b)))

-- ---- the order in which pages were touched
-- what an event makes of the place at which the page b was touched last: a put or get touches its page, and a request
-- that is done the page that it read
abbrev pub TouchAfter : List Event → Event → Buf → Type 0
TouchAfter h (Put by s g from to fill) b =
    last_touch (h ▹ Put by s g from to fill) b ≡ (if same_buf b (Page s g) then length h else last_touch h b)
TouchAfter h (Get by s g from to sum) b =
    last_touch (h ▹ Get by s g from to sum) b ≡ (if same_buf b (Page s g) then length h else last_touch h b)
TouchAfter h (Done k id ok) b =
    (r : Request) → slice_get (requests h) id.0 ≡ Some r
    → last_touch (h ▹ Done k id ok) b ≡ (if reads r b then length h else last_touch h b)
TouchAfter h e b = last_touch (h ▹ e) b ≡ last_touch h b

-- the page is held, and it isn't loading
pub record IsThere (w : Workload) (h : List Event) (b : Buf) : Type 0 where
  pub held : IsTrue (is_held w h b)
  pub loaded : IsFalse (is_loading w h b)

-- each event of a legal history does so to each page. A place isn't past the end; what is there was touched by an event
-- of the history, and no two pages that are there by the same one
pub record TouchesChange : Type 0 where
  pub change : (w : Workload) (h : List Event) (e : Event) (b : Buf) → IsAccepted w → IsLegal w (h ▹ e)
      → TouchAfter h e b
  pub most : (h : List Event) (b : Buf) → last_touch h b ≤ length h
  pub before : (w : Workload) (h : List Event) (b : Buf) → IsThere w h b → last_touch h b < length h
  pub apart : (w : Workload) (h : List Event) (b c : Buf) → IsThere w h b → IsThere w h c
      → last_touch h b ≡ last_touch h c → b ≡ c

-- ---- how many pages are held, and how many dirty or busy
-- the pages that a request writes
abbrev pub pages_written : Request → List Buf
pages_written r = by_kind r.kind r.n where
  by_kind : ReqKind → ℕ → List Buf
  by_kind (Pages s g) n = pages_of s g n
  by_kind _ n = []

-- after h so many pages are held, and so many are dirty or busy
pub record CountsAre (w : Workload) (h : List Event) (held unsettled : ℕ) : Type 0 where
  pub held_is : length (held_pages w h) ≡ held
  pub unsettled_is : length (unsettled_pages w h) ≡ unsettled

-- from h to l, a request that is done leaves as many pages held; those that it wrote are settled, where their file is
-- still there, but for those that are dirty again
pub record CountsDone (w : Workload) (h l : List Event) (r : Request) : Type 0 where
  pub held_is : length (held_pages w l) ≡ length (held_pages w h)
  pub settled_is : length (unsettled_pages w l)
      + count_by (λ b. is_live_page w h b && not (is_dirty w h b)) (pages_written r)
      ≡ length (unsettled_pages w h)

-- from h to l, one page is let go
pub record CountsEvict (w : Workload) (h l : List Event) : Type 0 where
  pub held_is : length (held_pages w l) + 1 ≡ length (held_pages w h)
  pub unsettled_is : length (unsettled_pages w l) ≡ length (unsettled_pages w h)

-- from h to l, the pages of a file are let go
pub record CountsDrop (w : Workload) (h l : List Event) (s : Serial) : Type 0 where
  pub held_is : length (held_pages w l) + count_by (is_page_of s) (held_pages w h) ≡ length (held_pages w h)
  pub unsettled_is : length (unsettled_pages w l) + count_by (is_page_of s) (unsettled_pages w h)
      ≡ length (unsettled_pages w h)

-- what an event makes of these counts
abbrev pub CountsAfter : Workload → List Event → Event → Type 0
CountsAfter w h (Put by s g from to fill) =
    CountsAre w (h ▹ Put by s g from to fill)
    (if is_held w h (Page s g) then length (held_pages w h) else length (held_pages w h) + 1)
    (if is_unsettled w h (Page s g) then length (unsettled_pages w h) else length (unsettled_pages w h) + 1)
CountsAfter w h (Add by r) =
    CountsAre w (h ▹ Add by r) (if is_write r then length (held_pages w h) else length (held_pages w h) + 1)
    (length (unsettled_pages w h))
CountsAfter w h (Done k id ok) =
    (r : Request) → slice_get (requests h) id.0 ≡ Some r → CountsDone w h (h ▹ Done k id ok) r
CountsAfter w h (Evict by s g) = CountsEvict w h (h ▹ Evict by s g)
CountsAfter w h (Drop by slot s) = CountsDrop w h (h ▹ Drop by slot s) s
CountsAfter w h e = CountsAre w (h ▹ e) (length (held_pages w h)) (length (unsettled_pages w h))

-- each event of a legal history does so
abbrev pub CountsChange : Type 0
CountsChange = (w : Workload) (h : List Event) (e : Event) → IsAccepted w → IsLegal w (h ▹ e) → CountsAfter w h e
