-- The pages that the cache holds, and how many of them are dirty or busy.
use Rattle.std.specs.Prelude.{◌≡◌, ℕ, ◌-◌, List, [], ◌∷◌, length, slice_get, filter, nat_le, Bool, true, false, not, ◌&&◌, ◌||◌, Some, if◌then◌else◌, IsTrue}
use Rattle.std.specs.List.{list_any}
use Rattle.split_types.specs.declared.buf.Buf.{Buf}
use Rattle.split_types.specs.declared.buf.Buf.TheVariants.{Page}
use Rattle.split_types.specs.declared.request.ReqKind.{ReqKind}
use Rattle.split_types.specs.declared.request.ReqKind.TheVariants.{Read, Pages}
use Rattle.split_types.specs.declared.request.Request.{Request}
use Rattle.split_types.specs.declared.workload.Workload.{Workload}
use Rattle.split_types.specs.declared.event.Event.{Event}
use Rattle.split_types.specs.declared.event.Event.TheVariants.{Put, Add, Done, Evict}
use Rattle.split_types.specs.History.{◌▹◌}
use Rattle.split_types.specs.Hooks.{same_buf}
use Rattle.split_types.specs.Parents.{pages_of}
use Rattle.split_types.specs.Pages.{is_live_page, is_dirty, is_busy}
use Rattle.split_types.specs.Reads.{is_read_of, is_loading}

-- the page was put, or loaded by a read that was done well, and wasn't evicted since
abbrev pub is_placed : List Event → Buf → Bool
is_placed [] b = false
is_placed (h ▹ Put by s g from to fill) b = same_buf b (Page s g) || is_placed h b
is_placed (h ▹ Done k id true) b = is_read_of h id b || is_placed h b
is_placed (h ▹ Evict by s g) b = not (same_buf b (Page s g)) && is_placed h b
is_placed (h ▹ e) b = is_placed h b

-- a page of a file that is there is held where it is loading, or was put or loaded and not evicted since
abbrev pub is_held : Workload → List Event → Buf → Bool
is_held w h b = is_loading w h b || (is_live_page w h b && is_placed h b)

-- the page is dirty or busy
abbrev pub is_unsettled : Workload → List Event → Buf → Bool
is_unsettled w h b = is_dirty w h b || is_busy w h b

-- ---- how many pages there are of a kind

-- the pages that a request reads or writes
abbrev pub pages_moved : Request → List Buf
pages_moved r = by_kind r.kind r.n where
  by_kind : ReqKind → ℕ → List Buf
  by_kind (Read p s g) n = Page s g ∷ []
  by_kind (Pages s g) n = pages_of s g n
  by_kind _ n = []

-- these pages, and this one with them
abbrev pub with_page : Buf → List Buf → List Buf
with_page b bufs = if list_any (same_buf b) bufs then bufs else b ∷ bufs

-- these pages, and with them each of some others
abbrev pub with_pages : List Buf → List Buf → List Buf
with_pages [] bufs = bufs
with_pages (b ∷ others) bufs = with_page b (with_pages others bufs)

-- the pages that were ever put, or that a request was added to read or write, each once
abbrev pub known_pages : List Event → List Buf
known_pages [] = []
known_pages (h ▹ Put by s g from to fill) = with_page (Page s g) (known_pages h)
known_pages (h ▹ Add by r) = with_pages (pages_moved r) (known_pages h)
known_pages (h ▹ e) = known_pages h

-- all pages that are held
abbrev pub held_pages : Workload → List Event → List Buf
held_pages w h = filter (is_held w h) (known_pages h)

-- the cache is full where it holds as many pages as it has places
abbrev pub is_full : Workload → List Event → Bool
is_full w h = nat_le w.cache (length (held_pages w h))

-- all pages that are dirty or busy
abbrev pub unsettled_pages : Workload → List Event → List Buf
unsettled_pages w h = filter (is_unsettled w h) (known_pages h)

-- the stack is crowded where all pages of the cache but one for each process, or more, are dirty or busy
abbrev pub is_crowded : Workload → List Event → Bool
is_crowded w h = nat_le (w.cache - length w.procs) (length (unsettled_pages w h))

-- every page that is held, dirty or busy is among the known pages, and each of these stands there once: so the lists
-- above leave none out, and count none twice
pub record PagesAreKnown : Type 0 where
  pub held : (w : Workload) (h : List Event) (b : Buf) → IsTrue (is_held w h b)
      → IsTrue (list_any (same_buf b) (known_pages h))
  pub unsettled : (w : Workload) (h : List Event) (b : Buf) → IsTrue (is_unsettled w h b)
      → IsTrue (list_any (same_buf b) (known_pages h))
  pub once : (h : List Event) (i j : ℕ) (b : Buf) → slice_get (known_pages h) i ≡ Some b
      → slice_get (known_pages h) j ≡ Some b → i ≡ j
