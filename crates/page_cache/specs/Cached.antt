-- What a cache holds: pages, each named by its buffer.
use Rattle.std.specs.Prelude.{ℕ, ◌<◌, Bool, false, not, ◌&&◌, List, map, count_by, slice_index, slice_index_or, Option, Some, None, is_some}
use Rattle.std.specs.List.{position_or_len}
use Rattle.split_types.specs.declared.ids.Pid.{Pid}
use Rattle.split_types.specs.declared.buf.Buf.{Buf}
use Rattle.split_types.specs.declared.buf.Buf.TheVariants.{Page, Bitmap, Dir, Inode}
use Rattle.split_types.specs.Hooks.{same_buf}
use Rattle.cause_set.specs.Tags.{Tags, same, set_in}
use Rattle.page_cache.specs.declared.state.PageState.{PageState}
use Rattle.page_cache.specs.Keys.{buf_of}
use Rattle.page_cache.specs.Held.{Held, mark_in}

-- what each place holds and when it was touched, as far as order goes; how many pages may be held, and for how
-- many more calls there is room
pub record Cached : Type 0 where
  pub places : List (Option Held)
  pub touches : List ℕ
  pub limit : ℕ
  pub spare : ℕ

-- ---- pages by their buffers

-- a place holds the page
abbrev pub is_page : Buf → Option Held → Bool
is_page b None = false
is_page b (Some p) = same_buf (buf_of p.key) b

-- the place of a page
abbrev pub place_of : Cached → Buf → ℕ
place_of c b = position_or_len (is_page b) c.places

-- the page, if it is held
abbrev pub page_of : Cached → Buf → Option Held
page_of c b = slice_index_or c.places (place_of c b) None

-- when it was touched, as far as order goes
abbrev pub touch_of : Cached → Buf → ℕ
touch_of c b = slice_index c.touches (place_of c b)

-- a page of a file's data, of a number that a file can have
abbrev pub IsDataPage : Buf → Type 0
IsDataPage (Page s g) = g < 1008
IsDataPage Bitmap = ⊥
IsDataPage (Dir k) = ⊥
IsDataPage (Inode s) = ⊥

-- ---- how a page stands

abbrev pub is_idle : Option Held → Bool
is_idle x = (mark_in x).is_idle

abbrev pub is_ready : Option Held → Bool
is_ready x = (mark_in x).is_ready

abbrev pub is_unsettled : Option Held → Bool
is_unsettled x = (mark_in x).is_unsettled

abbrev pub pin_in : Option Held → Option Pid
pin_in x = (mark_in x).pin

abbrev pub is_loading : Option Held → Bool
is_loading None = false
is_loading (Some p) = p.state.loading

abbrev pub is_busy : Option Held → Bool
is_busy None = false
is_busy (Some p) = p.state.busy

abbrev pub state_of : Held → PageState
state_of p =
    record {
      dirty = is_some p.tag;
      busy = p.state.busy;
      loading = p.state.loading;
      pinned = not p.state.loading && is_some p.state.pin;
    }

-- how many pages are held, and how many of them are dirty or busy
abbrev pub held_in : Cached → ℕ
held_in c = count_by is_some c.places

abbrev pub unsettled_in : Cached → ℕ
unsettled_in c = count_by is_unsettled c.places

-- ---- causes

-- the number of a page's tag
abbrev pub tag_in : Option Held → Option ℕ
tag_in None = None
tag_in (Some p) = p.tag

abbrev pub tags_in : Cached → List (Option ℕ)
tags_in c = map tag_in c.places

-- the causes of a page: nobody where it isn't dirty
abbrev pub causes_of : Tags → Cached → Buf → List ℕ
causes_of tags c b = set_in same tags (tag_in (page_of c b))
