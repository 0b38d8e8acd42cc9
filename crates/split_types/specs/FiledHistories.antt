-- That the histories which serve as examples of files are those which the stack makes, how they end, and what their
-- requests cost.
use Rattle.std.specs.Prelude.{◌≡◌, List, [], ◌∷◌, ◌++◌, map, true, Option, None}
use Rattle.split_types.specs.declared.call.Reply.{Reply}
use Rattle.split_types.specs.declared.call.Reply.TheVariants as reply
use Rattle.split_types.specs.declared.workload.Workload.{Workload}
use Rattle.split_types.specs.declared.event.Event.{Event}
use Rattle.split_types.specs.declared.event.Event.TheVariants.{Ret}
use Rattle.split_types.specs.History.{◌▹◌}
use Rattle.split_types.specs.Next.{next}
use Rattle.split_types.specs.Legal.{is_drained, turn_order}
use Rattle.split_types.specs.WorkedHistories.{IsDue}
use Rattle.split_types.specs.WorkedCaches.{own}
use Rattle.split_types.specs.CachedHistories.{IsMade}
use Rattle.split_types.specs.FileExamples.{last_block, last_block_load, waiting_blocks, waiting_blocks_load, dropped_in_service, dropped_in_service_load, dropped_in_flight, dropped_in_flight_load, dropped_at_read, dropped_at_read_load, largest_file, largest_file_load, hole, hole_load, second_layout, second_layout_load, no_such_names, no_such_names_load, slot_again, slot_again_load, no_slot, no_slot_load}

-- the replies of the calls, in the order of their returns
abbrev pub replies : List Event → List Reply
replies [] = []
replies (h ▹ Ret by r) = replies h ++ r ∷ []
replies (h ▹ e) = replies h

-- what each actor that is asked in turn would do next
abbrev pub nexts : Workload → List Event → List (Option Event)
nexts w h = map (next w h) (turn_order w)

-- nobody has a next event: not the one process, nor writeback, the commit thread, the dispatcher, a completion or the
-- clock; so too with two processes
abbrev pub nobody : List (Option Event)
nobody = None ∷ None ∷ None ∷ None ∷ None ∷ None ∷ []

abbrev pub nobody_of_two : List (Option Event)
nobody_of_two = None ∷ nobody

-- how a history ends: the replies of its calls, and what each actor would do next; all its work is done
pub record Ends (w : Workload) (h : List Event) (of_calls : List Reply) (of_actors : List (Option Event)) : Type 0 where
  pub replies_are : replies h ≡ of_calls
  pub nexts_are : nexts w h ≡ of_actors
  pub drained : is_drained w h ≡ true

-- the histories are legal, and are what turns and draining make
pub record FilesAreMade : Type 0 where
  pub last_block : IsMade last_block_load last_block
  pub waiting_blocks : IsMade waiting_blocks_load waiting_blocks
  pub dropped_in_service : IsMade dropped_in_service_load dropped_in_service
  pub dropped_in_flight : IsMade dropped_in_flight_load dropped_in_flight
  pub dropped_at_read : IsMade dropped_at_read_load dropped_at_read
  pub largest_file : IsMade largest_file_load largest_file
  pub hole : IsMade hole_load hole
  pub second_layout : IsMade second_layout_load second_layout
  pub no_such_names : IsMade no_such_names_load no_such_names
  pub slot_again : IsMade slot_again_load slot_again
  pub no_slot : IsMade no_slot_load no_slot

pub record FilesEnd : Type 0 where
  pub last_block : Ends last_block_load last_block (reply.NoSpace 4096 ∷ []) nobody
  pub waiting_blocks : Ends waiting_blocks_load waiting_blocks (reply.Done ∷ reply.NoSpace 0 ∷ []) nobody
  pub dropped_in_service : Ends dropped_in_service_load dropped_in_service (reply.Done ∷ reply.Done ∷ []) nobody_of_two
  pub dropped_in_flight :
      Ends dropped_in_flight_load dropped_in_flight (reply.Done ∷ reply.Done ∷ reply.Done ∷ []) nobody_of_two
  pub dropped_at_read :
      Ends dropped_at_read_load dropped_at_read (reply.Done ∷ reply.NoFile ∷ []) nobody_of_two
  pub largest_file : Ends largest_file_load largest_file (reply.Done ∷ reply.TooBig ∷ []) nobody
  pub hole : Ends hole_load hole (reply.Done ∷ reply.Done ∷ reply.Count 5010 660 ∷ []) nobody
  pub second_layout :
      Ends second_layout_load second_layout (reply.Done ∷ reply.Done ∷ reply.Count 5010 660 ∷ []) nobody
  pub no_such_names :
      Ends no_such_names_load no_such_names (reply.Exists ∷ reply.NoFile ∷ reply.NoFile ∷ []) nobody
  pub slot_again : Ends slot_again_load slot_again (reply.Done ∷ reply.Done ∷ reply.Done ∷ []) nobody
  pub no_slot : Ends no_slot_load no_slot (reply.NoSlot ∷ []) nobody

-- what the requests cost, and whom
pub record FilesAreDue : Type 0 where
  pub last_block :
      IsDue last_block_load last_block
      (own 1 52 ∷ own 1 56 ∷ own 1 52 ∷ own 1 52 ∷ own 1 22 ∷ own 1 52 ∷ [])
      (286 ∷ []) 286
  pub waiting_blocks :
      IsDue waiting_blocks_load waiting_blocks
      (own 1 58 ∷ own 1 52 ∷ own 1 52 ∷ own 1 2 ∷ own 1 22 ∷ own 1 52 ∷ [])
      (238 ∷ []) 238
  pub dropped_in_service :
      IsDue dropped_in_service_load dropped_in_service
      (own 2 58 ∷ own 2 52 ∷ own 2 52 ∷ own 2 2 ∷ own 2 22 ∷ own 2 52 ∷ [])
      (0 ∷ 238 ∷ []) 238
  pub dropped_in_flight :
      IsDue dropped_in_flight_load dropped_in_flight
      (own 1 52 ∷ own 1 2 ∷ own 2 58 ∷ own 2 52 ∷ own 2 52 ∷ own 2 2 ∷ own 2 22 ∷ own 2 52 ∷ [])
      (54 ∷ 238 ∷ []) 292
  pub dropped_at_read :
      IsDue dropped_at_read_load dropped_at_read
      (own 1 52 ∷ own 2 58 ∷ own 2 52 ∷ own 2 52 ∷ own 2 2 ∷ own 2 22 ∷ own 2 52 ∷ [])
      (52 ∷ 238 ∷ []) 290
  pub largest_file :
      IsDue largest_file_load largest_file
      (own 1 52 ∷ own 1 56 ∷ own 1 52 ∷ own 1 52 ∷ own 1 22 ∷ own 1 52 ∷ [])
      (286 ∷ []) 286
  pub hole :
      IsDue hole_load hole
      (own 1 52 ∷ own 1 58 ∷ own 1 52 ∷ own 1 52 ∷ own 1 2 ∷ own 1 22 ∷ own 1 52 ∷ [])
      (290 ∷ []) 290
  pub second_layout :
      IsDue second_layout_load second_layout
      (own 1 102 ∷ own 1 108 ∷ own 1 52 ∷ own 1 52 ∷ own 1 2 ∷ own 1 22 ∷ own 1 52 ∷ [])
      (390 ∷ []) 390
  pub no_such_names : IsDue no_such_names_load no_such_names [] (0 ∷ []) 0
  pub slot_again :
      IsDue slot_again_load slot_again
      (own 1 60 ∷ own 1 52 ∷ own 1 52 ∷ own 1 2 ∷ own 1 22 ∷ own 1 22 ∷ own 1 52 ∷ [])
      (262 ∷ []) 262
  pub no_slot : IsDue no_slot_load no_slot [] (0 ∷ []) 0

pub record FiledHistories : Type 0 where
  pub made : FilesAreMade
  pub ends : FilesEnd
  pub due : FilesAreDue
