-- Which page is evicted where another one needs its place: the order in which pages were touched, and which are pinned.
use Rattle.std.specs.Prelude.{◌≡◌, ℕ, ◌<◌, List, [], ◌∷◌, length, filter, nat_le, Bool, true, not, ◌&&◌, ◌||◌, is_some, Option, Some, None, if◌then◌else◌, IsTrue, IsFalse}
use Rattle.split_types.specs.declared.ids.Pid.{Pid}
use Rattle.split_types.specs.declared.buf.Buf.{Buf}
use Rattle.split_types.specs.declared.buf.Buf.TheVariants.{Page}
use Rattle.split_types.specs.declared.workload.Workload.{Workload}
use Rattle.split_types.specs.declared.event.Event.{Event}
use Rattle.split_types.specs.declared.event.Event.TheVariants.{Put, Get, Ret, Done}
use Rattle.split_types.specs.History.{◌▹◌}
use Rattle.split_types.specs.Hooks.{same_buf}
use Rattle.split_types.specs.Pages.{is_live_page}
use Rattle.split_types.specs.Reads.{is_read_of, is_loading, other_than, reader_of}
use Rattle.split_types.specs.HeldPages.{is_held, is_unsettled, known_pages}

-- the place of the event that touched the page last: its put, its get, or the completion of a read that loaded it;
-- 0, which is never such a place, where nothing touched it
abbrev pub last_touch : List Event → Buf → ℕ
last_touch [] b = 0
last_touch (h ▹ Put by s g from to fill) b = if same_buf b (Page s g) then length h else last_touch h b
last_touch (h ▹ Get by s g from to sum) b = if same_buf b (Page s g) then length h else last_touch h b
last_touch (h ▹ Done k id true) b = if is_read_of h id b then length h else last_touch h b
last_touch (h ▹ e) b = last_touch h b

-- the process that pins the page: its call under way added the read that loaded the page last, and it made no put or
-- get since that read was done
abbrev pub pinned_by : List Event → Buf → Option Pid
pinned_by [] b = None
pinned_by (h ▹ Done k id true) b = if is_read_of h id b then reader_of h id else pinned_by h b
pinned_by (h ▹ Put by s g from to fill) b = other_than by (pinned_by h b)
pinned_by (h ▹ Get by s g from to sum) b = other_than by (pinned_by h b)
pinned_by (h ▹ Ret by reply) b = other_than by (pinned_by h b)
pinned_by (h ▹ e) b = pinned_by h b

-- a page of a file that is there is pinned where a process pins it
abbrev pub is_pinned : Workload → List Event → Buf → Bool
is_pinned w h b = is_live_page w h b && is_some (pinned_by h b)

-- the page may be evicted: it is held, and neither dirty, busy, loading nor pinned
abbrev pub is_evictable : Workload → List Event → Buf → Bool
is_evictable w h b = is_held w h b && not (is_unsettled w h b || is_loading w h b || is_pinned w h b)

-- of a page and another, where there is one, the one that was touched earlier
abbrev pub touched_earlier : List Event → Buf → Option Buf → Option Buf
touched_earlier h b None = Some b
touched_earlier h b (Some c) = if nat_le (last_touch h b) (last_touch h c) then Some b else Some c

-- the page of least last touch
abbrev pub least_touched : List Event → List Buf → Option Buf
least_touched h [] = None
least_touched h (b ∷ bufs) = touched_earlier h b (least_touched h bufs)

-- the page that is evicted next: the one of least last touch among those that may be
abbrev pub victim : Workload → List Event → Option Buf
victim w h = least_touched h (filter (is_evictable w h) (known_pages h))

-- ---- the same in words

-- the page may be evicted, and every other page that may be was touched after it
pub record IsVictim (w : Workload) (h : List Event) (b : Buf) : Type 0 where
  pub evictable : IsTrue (is_evictable w h b)
  pub oldest : (c : Buf) → IsTrue (is_evictable w h c) → IsFalse (same_buf b c) → last_touch h b < last_touch h c

-- the victim is such a page, and where there is none no page may be evicted
pub record VictimsAreOldest : Type 0 where
  pub some : (w : Workload) (h : List Event) (b : Buf) → victim w h ≡ Some b → IsVictim w h b
  pub none : (w : Workload) (h : List Event) (b : Buf) → victim w h ≡ None → IsFalse (is_evictable w h b)
