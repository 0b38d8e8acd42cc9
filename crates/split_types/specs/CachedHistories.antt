-- That the histories which serve as examples of reads and of small caches are legal, and what turns and draining make.
use Rattle.std.specs.Prelude.{◌≡◌, List, []}
use Rattle.split_types.specs.declared.workload.Workload.{Workload}
use Rattle.split_types.specs.declared.event.Event.{Event}
use Rattle.split_types.specs.Legal.{IsLegal, drain, play, go_actors}
use Rattle.split_types.specs.CacheExamples.{two_in_flight, two_in_flight_load, small_cache, small_cache_load, part_of_page, part_of_page_load, past_the_end, past_the_end_load, pinned_page, pinned_page_load}

-- the history is legal, and what the turns of its `go` lines and then draining make
pub record IsMade (w : Workload) (h : List Event) : Type 0 where
  pub legal : IsLegal w h
  pub made : drain w (play w [] (go_actors w)) ≡ h

pub record CachedHistories : Type 0 where
  pub of_two_in_flight : IsMade two_in_flight_load two_in_flight
  pub of_small_cache : IsMade small_cache_load small_cache
  pub of_part_of_page : IsMade part_of_page_load part_of_page
  pub of_past_the_end : IsMade past_the_end_load past_the_end
  pub of_pinned_page : IsMade pinned_page_load pinned_page
