-- How a page stands.
use Rattle.std.specs.Prelude.{Option, is_some}
use Rattle.page_cache.specs.Held.{Held}
use Rattle.page_cache.specs.Cached.{is_loading, is_unsettled}
use Rattle.client_calls.specs.declared.standing.Standing.{Standing}
use Rattle.client_calls.specs.Space.{is_dirty}

-- how the page stands that this is, or that isn't held
abbrev pub standing_of : Option Held → Standing
standing_of x =
    record { held = is_some x; loading = is_loading x; dirty = is_dirty x; unsettled = is_unsettled x }
