-- A page that a place of a cache holds.
use Rattle.std.specs.Prelude.{ℕ, Bool, false, not, ◌&&◌, ◌||◌, List, Option, Some, None, is_some, is_none}
use Rattle.std.specs.Option.{option_map}
use Rattle.page_cache.specs.declared.key.PageKey.{PageKey}
use Rattle.page_cache.specs.declared.page.State.{State}
use Rattle.page_cache.specs.declared.page.Mark.{Mark}
use Rattle.page_cache.specs.declared.page.Page.{Page}

-- the page, its bytes, the number of its tag where it is dirty, and how it stands
pub record Held : Type 0 where
  pub key : PageKey
  pub bytes : List ℕ
  pub tag : Option ℕ
  pub state : State

-- what a place holds, with tags seen as numbers
abbrev pub seen : {T : Type 0} → (T → ℕ) → Option (Page T) → Option Held
seen number None = None
seen number (Some p) =
    Some record { key = p.key; bytes = p.bytes; tag = option_map number p.tag; state = p.state }

-- the mark of a page, dirty or not, that stands so
abbrev pub mark_of : Bool → State → Mark
mark_of dirty state =
    record {
      is_idle = not dirty && not state.busy && not state.loading && is_none state.pin;
      is_ready = dirty && not state.busy;
      is_unsettled = dirty || state.busy;
      pin = state.pin;
    }

-- the mark of a place
abbrev pub mark_in : Option Held → Mark
mark_in None = record { is_idle = false; is_ready = false; is_unsettled = false; pin = None }
mark_in (Some p) = mark_of (is_some p.tag) p.state

-- the key in a place
abbrev pub key_in : Option Held → Option PageKey
key_in None = None
key_in (Some p) = Some p.key

-- the state of a page; one that isn't held is neither busy nor loading, and pinned by nobody
abbrev pub state_in : Option Held → State
state_in None = record { busy = false; loading = false; pin = None }
state_in (Some p) = p.state
