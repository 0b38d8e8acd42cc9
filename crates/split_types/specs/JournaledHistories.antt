-- That the histories which serve as examples of the journal are those which the stack makes, how they end, and what their
-- requests cost.
use Rattle.std.specs.Prelude.{List, [], ◌∷◌, Option, None}
use Rattle.split_types.specs.declared.call.Reply.TheVariants as reply
use Rattle.split_types.specs.declared.event.Event.{Event}
use Rattle.split_types.specs.WorkedHistories.{due, IsDue}
use Rattle.split_types.specs.WorkedCaches.{own}
use Rattle.split_types.specs.CachedHistories.{IsMade}
use Rattle.split_types.specs.FiledHistories.{Ends, nobody, nobody_of_two}
use Rattle.split_types.specs.Examples.{late_homes, three_creators, writer_between_serve_and_map}
use Rattle.split_types.specs.CacheExamples.{new_page_load}
use Rattle.split_types.specs.JournalExamples.{creators_load, data_before_commit, data_before_commit_load, late_load, map_before_seal, map_before_seal_load, one_of_four, one_of_four_load, synced, synced_load}

-- nobody has a next event, with three processes
abbrev pub nobody_of_three : List (Option Event)
nobody_of_three = None ∷ nobody_of_two

-- the histories are legal, and are what turns and draining make
pub record JournalsAreMade : Type 0 where
  pub new_page : IsMade new_page_load writer_between_serve_and_map
  pub creators : IsMade creators_load three_creators
  pub data_before_commit : IsMade data_before_commit_load data_before_commit
  pub one_of_four : IsMade one_of_four_load one_of_four
  pub late : IsMade late_load late_homes
  pub map_before_seal : IsMade map_before_seal_load map_before_seal
  pub synced : IsMade synced_load synced

pub record JournalsEnd : Type 0 where
  pub new_page : Ends new_page_load writer_between_serve_and_map (reply.Done ∷ reply.Done ∷ []) nobody_of_two
  pub creators : Ends creators_load three_creators (reply.Done ∷ reply.Done ∷ reply.Done ∷ reply.Done ∷ []) nobody_of_three
  pub data_before_commit : Ends data_before_commit_load data_before_commit (reply.Done ∷ []) nobody
  pub one_of_four : Ends one_of_four_load one_of_four (reply.Done ∷ []) nobody
  pub late : Ends late_load late_homes (reply.Done ∷ reply.Done ∷ reply.Done ∷ reply.Done ∷ []) nobody_of_two
  pub map_before_seal : Ends map_before_seal_load map_before_seal (reply.Done ∷ []) nobody
  pub synced : Ends synced_load synced (reply.Done ∷ reply.Done ∷ []) nobody

-- what the requests cost, and whom
pub record JournalsAreDue : Type 0 where
  pub new_page :
      IsDue new_page_load writer_between_serve_and_map
      (due (1 ∷ 2 ∷ []) 52 (26 ∷ 26 ∷ []) ∷ own 1 56 ∷ own 1 52 ∷ own 1 52 ∷ own 1 22 ∷ own 1 52 ∷ [])
      (260 ∷ 26 ∷ []) 286
  pub creators :
      IsDue creators_load three_creators
      (due (1 ∷ 2 ∷ 3 ∷ []) 60 (20 ∷ 20 ∷ 20 ∷ []) ∷ due (1 ∷ 2 ∷ 3 ∷ []) 52 (18 ∷ 17 ∷ 17 ∷ [])
      ∷ due (1 ∷ 2 ∷ 3 ∷ []) 52 (18 ∷ 17 ∷ 17 ∷ []) ∷ own 1 22 ∷ own 2 2 ∷ own 3 2
      ∷ due (1 ∷ 2 ∷ 3 ∷ []) 52 (18 ∷ 17 ∷ 17 ∷ []) ∷ [])
      (96 ∷ 73 ∷ 73 ∷ []) 242
  pub data_before_commit :
      IsDue data_before_commit_load data_before_commit
      (own 1 52 ∷ own 1 56 ∷ own 1 52 ∷ own 1 52 ∷ own 1 22 ∷ own 1 52 ∷ [])
      (286 ∷ []) 286
  pub one_of_four :
      IsDue one_of_four_load one_of_four
      (own 1 102 ∷ own 1 106 ∷ own 1 52 ∷ own 1 52 ∷ own 1 22 ∷ own 1 52 ∷ [])
      (386 ∷ []) 386
  pub late :
      IsDue late_load late_homes
      (own 1 56 ∷ own 1 52 ∷ own 2 6 ∷ own 2 52 ∷ due (1 ∷ 2 ∷ []) 52 (26 ∷ 26 ∷ []) ∷ own 1 22 ∷ own 2 2
      ∷ own 1 52 ∷ own 2 52 ∷ [])
      (208 ∷ 138 ∷ []) 346
  pub map_before_seal :
      IsDue map_before_seal_load map_before_seal
      (own 1 52 ∷ own 1 56 ∷ own 1 52 ∷ own 1 52 ∷ own 1 22 ∷ own 1 52 ∷ [])
      (286 ∷ []) 286
  pub synced :
      IsDue synced_load synced
      (own 1 52 ∷ own 1 56 ∷ own 1 52 ∷ own 1 52 ∷ own 1 22 ∷ own 1 52 ∷ [])
      (286 ∷ []) 286

pub record JournaledHistories : Type 0 where
  pub made : JournalsAreMade
  pub ends : JournalsEnd
  pub due : JournalsAreDue
