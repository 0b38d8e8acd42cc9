-- What the cache holds in the histories that serve as examples of reads and of small caches.
use Rattle.std.specs.Prelude.{◌≡◌, ℕ, List, [], ◌∷◌, map, filter, Bool, true, false, Option, Some, None}
use Rattle.split_types.specs.declared.buf.Buf.{Buf}
use Rattle.split_types.specs.declared.buf.Buf.TheVariants.{Page}
use Rattle.split_types.specs.declared.workload.Workload.{Workload}
use Rattle.split_types.specs.declared.event.Event.{Event}
use Rattle.split_types.specs.History.{older}
use Rattle.split_types.specs.Examples.{req, file}
use Rattle.split_types.specs.WorkedHistories.{Due, due, IsDue}
use Rattle.split_types.specs.Reads.{is_loading, is_read_badly}
use Rattle.split_types.specs.HeldPages.{known_pages, held_pages, unsettled_pages, is_full, is_crowded}
use Rattle.split_types.specs.Victims.{is_pinned, victim}
use Rattle.split_types.specs.Failures.{is_failing}
use Rattle.split_types.specs.CacheExamples.{two_in_flight, two_in_flight_load, small_cache, small_cache_load, part_of_page, part_of_page_load, past_the_end, past_the_end_load, pinned_page, pinned_page_load, failed_read, failed_read_load, dropped_file, dropped_file_load}

-- a cache: the pages that are held; of these those that are loading, that are pinned, and that are dirty or busy; and
-- the page that is evicted next
pub record CacheState : Type 0 where
  pub held : List Buf
  pub loading : List Buf
  pub pinned : List Buf
  pub unsettled : List Buf
  pub victim : Option Buf

abbrev pub cache_of : List Buf → List Buf → List Buf → List Buf → Option Buf → CacheState
cache_of held loading pinned unsettled victim = record {
  held = held;
  loading = loading;
  pinned = pinned;
  unsettled = unsettled;
  victim = victim;
}

-- the cache after the first n events of a history
abbrev pub cache_after : Workload → List Event → ℕ → CacheState
cache_after w h n =
    cache_of (held_pages w (older h n)) (filter (is_loading w (older h n)) (known_pages (older h n)))
    (filter (is_pinned w (older h n)) (known_pages (older h n))) (unsettled_pages w (older h n)) (victim w (older h n))

-- the cache is full, and the stack crowded, after so many events
abbrev pub full_after : Workload → List Event → ℕ → Bool
full_after w h n = is_full w (older h n)

abbrev pub crowded_after : Workload → List Event → ℕ → Bool
crowded_after w h n = is_crowded w (older h n)

-- the page of this number of the first preset file
abbrev pub page : ℕ → Buf
page g = Page (file 0) g

-- what is due for a request of one process
abbrev pub own : ℕ → ℕ → Due
own p cost = due (p ∷ []) cost (cost ∷ [])

-- what the requests of the histories cost, and whom
pub record ReadsAreDue : Type 0 where
  pub two_in_flight : IsDue two_in_flight_load two_in_flight (own 1 52 ∷ own 2 2 ∷ []) (52 ∷ 2 ∷ []) 54
  pub small_cache : IsDue small_cache_load small_cache (own 1 52 ∷ own 1 2 ∷ own 1 2 ∷ []) (56 ∷ []) 56
  pub part_of_page : IsDue part_of_page_load part_of_page (own 1 52 ∷ own 1 22 ∷ []) (74 ∷ []) 74
  pub past_the_end : IsDue past_the_end_load past_the_end (own 1 52 ∷ []) (52 ∷ []) 52
  pub pinned_page :
      IsDue pinned_page_load pinned_page (own 1 52 ∷ own 2 2 ∷ own 2 2 ∷ own 2 2 ∷ []) (52 ∷ 6 ∷ []) 58
  pub failed_read : IsDue failed_read_load failed_read (own 1 52 ∷ []) (52 ∷ []) 52

pub record WorkedCaches : Type 0 where
  pub due : ReadsAreDue
  -- each of the places of a small cache is taken in turn: a page goes only where it is clean, the oldest one first
  pub small_cache_after :
      map (cache_after small_cache_load small_cache) (3 ∷ 5 ∷ 7 ∷ 8 ∷ 12 ∷ 13 ∷ 14 ∷ 19 ∷ [])
      ≡ cache_of (page 0 ∷ []) [] [] (page 0 ∷ []) None
      ∷ cache_of (page 0 ∷ []) [] [] (page 0 ∷ []) None
      ∷ cache_of (page 0 ∷ []) [] [] [] (Some (page 0))
      ∷ cache_of (page 1 ∷ page 0 ∷ []) [] [] (page 1 ∷ []) (Some (page 0))
      ∷ cache_of (page 1 ∷ page 0 ∷ []) [] [] [] (Some (page 0))
      ∷ cache_of (page 1 ∷ []) [] [] [] (Some (page 1))
      ∷ cache_of (page 2 ∷ page 1 ∷ []) [] [] (page 2 ∷ []) (Some (page 1))
      ∷ cache_of (page 2 ∷ page 1 ∷ []) [] [] [] (Some (page 1))
      ∷ []
  pub small_cache_full :
      map (full_after small_cache_load small_cache) (7 ∷ 8 ∷ 13 ∷ 14 ∷ []) ≡ false ∷ true ∷ false ∷ true ∷ []
  pub small_cache_crowded :
      map (crowded_after small_cache_load small_cache) (2 ∷ 3 ∷ 6 ∷ 7 ∷ []) ≡ false ∷ true ∷ true ∷ false ∷ []
  -- a page that was read stays until its reader gets it
  pub pinned_page_after :
      map (cache_after pinned_page_load pinned_page) (3 ∷ 5 ∷ 11 ∷ 15 ∷ 16 ∷ 17 ∷ 19 ∷ 23 ∷ [])
      ≡ cache_of (page 0 ∷ []) (page 0 ∷ []) [] [] None
      ∷ cache_of (page 0 ∷ []) [] (page 0 ∷ []) [] None
      ∷ cache_of (page 1 ∷ page 0 ∷ []) [] (page 0 ∷ []) [] (Some (page 1))
      ∷ cache_of (page 2 ∷ page 1 ∷ page 0 ∷ []) [] (page 0 ∷ []) [] (Some (page 1))
      ∷ cache_of (page 2 ∷ page 0 ∷ []) [] (page 0 ∷ []) [] (Some (page 2))
      ∷ cache_of (page 2 ∷ page 0 ∷ []) [] [] [] (Some (page 2))
      ∷ cache_of (page 3 ∷ page 2 ∷ page 0 ∷ []) (page 3 ∷ []) [] [] (Some (page 2))
      ∷ cache_of (page 3 ∷ page 2 ∷ page 0 ∷ []) [] [] [] (Some (page 2))
      ∷ []
  -- a read that is done badly leaves no page, and its caller sees it
  pub failed_read_after :
      map (cache_after failed_read_load failed_read) (4 ∷ 5 ∷ [])
      ≡ cache_of (page 0 ∷ []) (page 0 ∷ []) [] [] None ∷ cache_of [] [] [] [] None ∷ []
  pub failed_read_seen :
      map (λ n. is_read_badly (older failed_read n) 1 (page 0)) (4 ∷ 5 ∷ 6 ∷ []) ≡ false ∷ true ∷ false ∷ []
  pub failed_read_fails : is_failing failed_read_load failed_read (req 0) ≡ true
  -- a drop ends the place of a page, and a read that is done after it loads nothing
  pub dropped_file_after :
      map (cache_after dropped_file_load dropped_file) (6 ∷ 7 ∷ 12 ∷ [])
      ≡ cache_of (page 0 ∷ []) (page 0 ∷ []) [] [] None ∷ cache_of [] [] [] [] None ∷ cache_of [] [] [] [] None ∷ []
