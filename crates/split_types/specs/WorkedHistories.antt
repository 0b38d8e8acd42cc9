-- What is due in the histories that serve as examples.
use Rattle.std.specs.Prelude.{◌≡◌, ℕ, List, [], ◌∷◌, length, map}
use Rattle.std.specs.List.{range_with_len}
use Rattle.split_types.specs.declared.workload.Workload.{Workload}
use Rattle.split_types.specs.declared.event.Event.{Event}
use Rattle.split_types.specs.History.{adds}
use Rattle.split_types.specs.Blame.{tag}
use Rattle.split_types.specs.CostAndClock.{cost_of, now}
use Rattle.split_types.specs.Bills.{bill, billed}
use Rattle.split_types.specs.Examples.{of_version, one_overwrite, three_writers, writer_after_add, writer_between_serve_and_map, three_creators, two_writers_of_three_pages, late_homes, two_creators}

-- what is due for a request: its tag, its cost, and what each process of the tag bears
pub record Due : Type 0 where
  pub tag : List ℕ
  pub cost : ℕ
  pub shares : List ℕ

abbrev pub due : List ℕ → ℕ → List ℕ → Due
due tag cost shares = record { tag = tag; cost = cost; shares = shares }

abbrev pub due_of : Workload → List Event → ℕ → Due
due_of w h id = due (tag h id) (cost_of h id) (map (bill w h id) (tag h id))

-- what is due for a history's requests, in the order of their adds
abbrev pub dues : Workload → List Event → List Due
dues w h = map (due_of w h) (range_with_len 0 (adds h))

-- this is due for the requests of a history, is billed to each process, and is what the clock says
pub record IsDue (w : Workload) (h : List Event) (of_requests : List Due) (to_processes : List ℕ) (clock : ℕ) : Type 0
  where
    pub requests : dues w h ≡ of_requests
    pub processes : map (billed w h) (range_with_len 1 (length to_processes)) ≡ to_processes
    pub time : now h ≡ clock

abbrev pub both : List ℕ
both = 1 ∷ 2 ∷ []

abbrev pub all_three : List ℕ
all_three = 1 ∷ 2 ∷ 3 ∷ []

pub record WorkedHistories : Type 0 where
  pub of_one_overwrite : IsDue (of_version 1) one_overwrite (due (1 ∷ []) 52 (52 ∷ []) ∷ []) (52 ∷ []) 52
  pub of_three_writers : IsDue (of_version 1) three_writers (due all_three 52 (18 ∷ 17 ∷ 17 ∷ []) ∷ [])
      (18 ∷ 17 ∷ 17 ∷ []) 52
  pub of_writer_after_add :
      IsDue (of_version 1) writer_after_add (due (1 ∷ []) 52 (52 ∷ []) ∷ due (2 ∷ []) 22 (22 ∷ []) ∷ [])
      (52 ∷ 22 ∷ []) 74
  pub of_writer_between_serve_and_map :
      IsDue (of_version 1) writer_between_serve_and_map
      (due both 52 (26 ∷ 26 ∷ [])
      ∷ due (1 ∷ []) 56 (56 ∷ [])
      ∷ due (1 ∷ []) 52 (52 ∷ [])
      ∷ due (1 ∷ []) 52 (52 ∷ [])
      ∷ due (1 ∷ []) 22 (22 ∷ [])
      ∷ due (1 ∷ []) 52 (52 ∷ [])
      ∷ [])
      (260 ∷ 26 ∷ [])
      286
  pub of_three_creators :
      IsDue (of_version 1) three_creators
      (due all_three 60 (20 ∷ 20 ∷ 20 ∷ [])
      ∷ due all_three 52 (18 ∷ 17 ∷ 17 ∷ [])
      ∷ due all_three 52 (18 ∷ 17 ∷ 17 ∷ [])
      ∷ due (1 ∷ []) 22 (22 ∷ [])
      ∷ due (2 ∷ []) 2 (2 ∷ [])
      ∷ due (3 ∷ []) 2 (2 ∷ [])
      ∷ due all_three 52 (18 ∷ 17 ∷ 17 ∷ [])
      ∷ [])
      (96 ∷ 73 ∷ 73 ∷ [])
      242
  -- the cost is split over the tag, and from version 3 on over the blocks first
  pub of_three_pages : IsDue (of_version 2) two_writers_of_three_pages (due both 106 (53 ∷ 53 ∷ []) ∷ [])
      (53 ∷ 53 ∷ []) 106
  pub of_three_pages_by_block : IsDue (of_version 3) two_writers_of_three_pages (due both 106 (71 ∷ 35 ∷ []) ∷ [])
      (71 ∷ 35 ∷ []) 106
  pub of_late_homes :
      IsDue (of_version 2) late_homes
      (due (1 ∷ []) 56 (56 ∷ [])
      ∷ due (1 ∷ []) 52 (52 ∷ [])
      ∷ due (2 ∷ []) 6 (6 ∷ [])
      ∷ due (2 ∷ []) 52 (52 ∷ [])
      ∷ due both 52 (26 ∷ 26 ∷ [])
      ∷ due (1 ∷ []) 22 (22 ∷ [])
      ∷ due (2 ∷ []) 2 (2 ∷ [])
      ∷ due (1 ∷ []) 52 (52 ∷ [])
      ∷ due (2 ∷ []) 52 (52 ∷ [])
      ∷ [])
      (208 ∷ 138 ∷ [])
      346
  pub of_two_creators :
      IsDue (of_version 3) two_creators
      (due both 58 (30 ∷ 28 ∷ [])
      ∷ due both 52 (26 ∷ 26 ∷ [])
      ∷ due both 52 (26 ∷ 26 ∷ [])
      ∷ due (1 ∷ []) 22 (22 ∷ [])
      ∷ due (2 ∷ []) 2 (2 ∷ [])
      ∷ due both 52 (26 ∷ 26 ∷ [])
      ∷ [])
      (130 ∷ 108 ∷ [])
      238
