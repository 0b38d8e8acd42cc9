-- What always holds of a cache: the guide finds each page, and the memory that is needed stands ready.
use Rattle.std.specs.Prelude.{◌≡◌, ℕ, ◌^◌, ◌<◌, ◌≤◌, List, map, length, slice_index_or, Option, Some, None, is_some, IfSome, count_by}
use Rattle.page_cache.specs.declared.key.PageKey.{PageKey}
use Rattle.page_cache.specs.Guide.{Guided, key_if}
use Rattle.page_cache.specs.Pool.{Pooled}
use Rattle.page_cache.specs.Held.{Held, key_in}
use Rattle.page_cache.specs.Cached.{is_idle, is_ready, is_unsettled, pin_in, is_loading}

-- the page in a place, if it is ready
abbrev pub ready_in : Option Held → Option PageKey
ready_in None = None
ready_in (Some p) = key_if (is_ready (Some p)) p.key

-- the guide has the marks of what the places hold
pub record AreGuided (g : Guided) (places : List (Option Held)) : Type 0 where
  pub keys : g.keys ≡ map key_in places
  pub idle : g.idle ≡ map is_idle places
  pub ready : g.ready ≡ map ready_in places
  pub unsettled : g.unsettled ≡ map is_unsettled places
  pub pins : g.pins ≡ map pin_in places
  pub touches : length g.touches ≡ length places

-- a page has its bytes, and a number that a page of a file can have
pub record IsSound (p : Held) : Type 0 where
  pub bytes : length p.bytes ≡ 4096
  pub number : p.key.page < 1008

-- no page is held twice
abbrev pub AreDistinct : List (Option Held) → Type 0
AreDistinct places =
    (i j : ℕ) (p q : Held) → slice_index_or places i None ≡ Some p → slice_index_or places j None ≡ Some q
    → p.key ≡ q.key → i ≡ j

-- memory stands ready for as many pages and as many runs as there is room for calls, and is reserved for each
-- page that is loading
pub record IsReady (limit spare count held loading : ℕ) (pool : Pooled) : Type 0 where
  pub within : held ≤ limit
  pub places : limit ≤ count
  pub pages : spare ≤ pool.pages
  pub runs : spare ≤ pool.runs
  pub reserved : pool.reserved ≡ loading

pub record IsKept (limit spare : ℕ) (places : List (Option Held)) (g : Guided) (pool : Pooled) : Type 0 where
  pub some : 0 < length places
  pub few : length places ≤ 2 ^ 32
  pub small : limit < 2 ^ 32
  pub guided : AreGuided g places
  pub sound : (i : ℕ) → IfSome (slice_index_or places i None) IsSound
  pub distinct : AreDistinct places
  pub ready : IsReady limit spare (length places) (count_by is_some places) (count_by is_loading places) pool
