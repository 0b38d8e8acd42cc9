-- What the fields of a cache come to.
use Rattle.std.specs.Prelude.{ℕ, List, map, Option}
use Rattle.page_cache.specs.Guide.{Guided}
use Rattle.page_cache.specs.declared.page.Page.{Page}
use Rattle.page_cache.specs.Held.{Held, seen}
use Rattle.page_cache.specs.Cached.{Cached}

module _ {T : Type 0} (number : T → ℕ) where
  -- what the places hold
  abbrev pub all_seen : List (Option (Page T)) → List (Option Held)
  all_seen places = map (seen number) places

  abbrev pub cached_of : ℕ → ℕ → List (Option (Page T)) → Guided → Cached
  cached_of limit spare places guide =
      record { places = all_seen places; touches = guide.touches; limit = limit; spare = spare }
