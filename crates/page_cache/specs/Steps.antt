-- What the steps of a call do to the places of a cache.
use Rattle.std.specs.Prelude.{◌≡◌, ℕ, ◌-◌, ◌<◌, true, List, length, slice_set, slice_index_or, Option, Some, None, IsSome, is_some}
use Rattle.std.specs.List.{position_or_len}
use Rattle.split_types.specs.declared.buf.Buf.{Buf}
use Rattle.page_cache.specs.declared.key.PageKey.{PageKey}
use Rattle.page_cache.specs.declared.page.State.{State}
use Rattle.page_cache.specs.Bytes.{zeros}
use Rattle.page_cache.specs.Held.{Held}
use Rattle.page_cache.specs.Cached.{Cached, is_page}
use Rattle.page_cache.specs.Changes.{one_if}

-- a place holds the page or, where no place does, is empty
pub record IsSlot (places : List (Option Held)) (b : Buf) (at : ℕ) (x : Option Held) : Type 0 where
  pub within : at < length places
  pub here : slice_index_or places at None ≡ x
  pub page : slice_index_or places (position_or_len (is_page b) places) None ≡ x
  pub own : is_page b x ≡ is_some x
  pub only : (i : ℕ) → is_page b (slice_index_or places i None) ≡ true → i ≡ at

-- a place holds the page
pub record IsPlaced (places : List (Option Held)) (b : Buf) (at : ℕ) : Type 0 where
  pub slot : IsSlot places b at (slice_index_or places at None)
  pub held : IsSome (slice_index_or places at None)

-- a page of zeros comes into an empty place; if it is loading, there is room for one call less
pub record Enters (old new : Cached) (key : PageKey) (tag : Option ℕ) (state : State) (at : ℕ) : Type 0 where
  pub within : at < length old.places
  pub empty : slice_index_or old.places at None ≡ None
  pub is :
      new ≡ record old {
        places = slice_set old.places at (Some record { key = key; bytes = zeros; tag = tag; state = state });
        spare = old.spare - one_if state.loading;
      }

-- a page of another tag and another state
abbrev pub changed : Option ℕ → State → Option Held → Option Held
changed tag state None = None
changed tag state (Some p) = Some record p { tag = tag; state = state }

-- a page of another state
abbrev pub with_state : State → Option Held → Option Held
with_state state None = None
with_state state (Some p) = Some record p { state = state }

-- a page of other bytes
abbrev pub with_bytes : (List ℕ → List ℕ) → Option Held → Option Held
with_bytes f None = None
with_bytes f (Some p) = Some record p { bytes = f p.bytes }
