-- What the places of a cache are found by.
use Rattle.std.specs.Prelude.{◌≡◌, ◌⊎◌, ℕ, ◌^◌, ◌<◌, ◌≤◌, Bool, true, false, List, length, map, replicate, slice_set, slice_index_or, Option, Some, None, is_some, IsSome}
use Rattle.split_types.specs.declared.ids.Pid.{Pid}
use Rattle.page_cache.specs.declared.key.PageKey.{PageKey}
use Rattle.page_cache.specs.declared.page.Mark.{Mark}

-- of each place the page, when it was touched as far as order goes, whether it is idle, its page if that is
-- ready, whether it is unsettled, and who pins it
pub record Guided : Type 0 where
  pub keys : List (Option PageKey)
  pub touches : List ℕ
  pub idle : List Bool
  pub ready : List (Option PageKey)
  pub unsettled : List Bool
  pub pins : List (Option Pid)

-- as many places in each list, and those with a page are taken
pub record IsGuide (keys : List (Option PageKey)) (taken : List Bool) (touches : List ℕ) (idle : List Bool)
    (ready : List (Option PageKey)) (unsettled : List Bool) (pins : List (Option Pid)) : Type 0 where
  pub some : 0 < length keys
  pub few : length keys ≤ 2 ^ 32
  pub are_taken : taken ≡ map is_some keys
  pub touches_len : length touches ≡ length keys
  pub idle_len : length idle ≡ length keys
  pub ready_len : length ready ≡ length keys
  pub unsettled_len : length unsettled ≡ length keys
  pub pins_len : length pins ≡ length keys

-- no place has a page
pub record IsUnused (places : ℕ) (g : Guided) : Type 0 where
  pub keys : g.keys ≡ replicate places None
  pub touches : length g.touches ≡ places
  pub idle : g.idle ≡ replicate places false
  pub ready : g.ready ≡ replicate places None
  pub unsettled : g.unsettled ≡ replicate places false
  pub pins : g.pins ≡ replicate places None

-- a place has a key, and no place has a lesser one, by serial and page
pub record IsLeastKey (keys : List (Option PageKey)) (at : ℕ) : Type 0 where
  pub within : at < length keys
  pub some : IsSome (slice_index_or keys at None)
  pub least :
      (i : ℕ) (j k : PageKey) → slice_index_or keys at None ≡ Some j → slice_index_or keys i None ≡ Some k
      → (j.serial < k.serial) ⊎ ((j.serial ≡ k.serial) × (j.page ≤ k.page))

-- the key, if the test is passed
abbrev pub key_if : Bool → PageKey → Option PageKey
key_if true key = Some key
key_if false key = None

-- a place comes to be marked
abbrev pub marked : Guided → ℕ → PageKey → Mark → Guided
marked g at key mark =
    record g {
      idle = slice_set g.idle at mark.is_idle;
      ready = slice_set g.ready at (key_if mark.is_ready key);
      unsettled = slice_set g.unsettled at mark.is_unsettled;
      pins = slice_set g.pins at mark.pin;
    }
