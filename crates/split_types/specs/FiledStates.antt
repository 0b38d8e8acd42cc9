-- Sizes, blocks and slots of files, and what waits, in the histories that serve as examples of files.
use Rattle.std.specs.Prelude.{◌≡◌, [], ◌∷◌, length, map, true, false, codes, Some, None}
use Rattle.split_types.specs.declared.buf.Buf.TheVariants.{Page}
use Rattle.split_types.specs.declared.request.Service.TheVariants.{Idle, Serving}
use Rattle.split_types.specs.History.{older}
use Rattle.split_types.specs.Examples.{file, slot}
use Rattle.split_types.specs.Files.{live_named}
use Rattle.split_types.specs.FileSizes.{size_of, disk_size_of}
use Rattle.split_types.specs.FileMaps.{mapped_block, free_blocks, is_waiting, reserved_pages, is_without_space}
use Rattle.split_types.specs.LiveFiles.{free_slot}
use Rattle.split_types.specs.FileSlots.{file_in_slot, slot_of, next_serial, live_files}
use Rattle.split_types.specs.ServedRuns.{run_to_serve, free_run}
use Rattle.split_types.specs.HeldPages.{held_pages, unsettled_pages, is_crowded}
use Rattle.split_types.specs.Writeback.{service}
use Rattle.split_types.specs.WorkedCaches.{page}
use Rattle.split_types.specs.WorkedFiles.{piece, run, piece_after, free_from}
use Rattle.split_types.specs.FileExamples.{last_block, last_block_load, waiting_blocks, waiting_blocks_load, dropped_in_service, dropped_in_service_load, dropped_in_flight, dropped_in_flight_load, largest_file, largest_file_load, hole, hole_load, slot_again, slot_again_load, no_slot, no_slot_load}

-- ---- blocks that are free, promised, taken and waiting

pub record WorkedSpace : Type 0 where
  -- the last free block is promised to the first page until that is mapped, and nothing is left for the second
  pub last_free :
      map (λ n. free_blocks last_block_load (older last_block n)) (2 ∷ 3 ∷ 5 ∷ 6 ∷ [])
      ≡ (1023 ∷ []) ∷ (1023 ∷ []) ∷ (1023 ∷ []) ∷ [] ∷ []
  pub last_promised :
      map (λ n. reserved_pages last_block_load (older last_block n)) (2 ∷ 3 ∷ 5 ∷ 6 ∷ [])
      ≡ [] ∷ (Page (file 1) 0 ∷ []) ∷ (Page (file 1) 0 ∷ []) ∷ [] ∷ []
  pub last_left :
      map (λ n. is_without_space last_block_load (older last_block n) (Page (file 1) 1)) (2 ∷ 3 ∷ [])
      ≡ false ∷ true ∷ []
  pub last_run :
      map (λ n. free_run last_block_load (older last_block n) 1) (5 ∷ 6 ∷ []) ≡ Some (free_from 1023 1) ∷ None ∷ []
  -- the blocks of a dropped file wait until the transaction that took the drop is committed, and are free then
  pub waiting :
      map (λ n. is_waiting waiting_blocks_load (older waiting_blocks n) 1023) (2 ∷ 3 ∷ 13 ∷ 14 ∷ [])
      ≡ false ∷ true ∷ true ∷ false ∷ []
  pub waiting_free :
      map (λ n. length (free_blocks waiting_blocks_load (older waiting_blocks n))) (7 ∷ 13 ∷ 14 ∷ []) ≡ 0 ∷ 0 ∷ 498 ∷ []

-- ---- files that grow

pub record WorkedGrowth : Type 0 where
  pub hole_pieces :
      map (piece_after hole_load hole) (6 ∷ 7 ∷ 10 ∷ 11 ∷ 12 ∷ [])
      ≡ Some (piece 1 904 914) ∷ None ∷ Some (piece 0 0 4096) ∷ Some (piece 1 0 914) ∷ None ∷ []
  pub hole_sizes : map (λ n. size_of hole_load (older hole n) 0) (3 ∷ 6 ∷ 7 ∷ []) ≡ 0 ∷ 0 ∷ 5010 ∷ []
  pub hole_disk_sizes : map (λ n. disk_size_of hole_load (older hole n) 0) (14 ∷ 15 ∷ []) ≡ 0 ∷ 5010 ∷ []
  pub hole_maps : map (mapped_block hole_load hole 0) (0 ∷ 1 ∷ 2 ∷ []) ≡ None ∷ Some 526 ∷ None ∷ []
  -- a page that is read as zeros takes no place in the cache
  pub hole_held : held_pages hole_load hole ≡ page 1 ∷ []
  pub hole_runs :
      map (λ n. run_to_serve hole_load (older hole n)) (6 ∷ 7 ∷ 16 ∷ []) ≡ None ∷ Some (run 1 1) ∷ None ∷ []
  pub largest_sizes :
      map (λ n. size_of largest_file_load (older largest_file n) 0) (2 ∷ 3 ∷ 12 ∷ []) ≡ 0 ∷ 4128768 ∷ 4128768 ∷ []

-- ---- files that come and go

pub record WorkedSlots : Type 0 where
  -- nothing is dirty or busy once a file is dropped, although its page is served, or written
  pub unsettled_in_service :
      map (λ n. unsettled_pages dropped_in_service_load (older dropped_in_service n)) (7 ∷ 8 ∷ []) ≡ (page 0 ∷ []) ∷ [] ∷ []
  pub service_stays :
      map (λ n. service (older dropped_in_service n)) (9 ∷ 10 ∷ []) ≡ Serving (run 0 1) ∷ Idle ∷ []
  pub unsettled_in_flight :
      map (λ n. unsettled_pages dropped_in_flight_load (older dropped_in_flight n)) (9 ∷ 10 ∷ 14 ∷ [])
      ≡ (page 0 ∷ []) ∷ [] ∷ (Page (file 1) 0 ∷ []) ∷ []
  pub crowded_in_flight :
      map (λ n. is_crowded dropped_in_flight_load (older dropped_in_flight n)) (9 ∷ 10 ∷ 14 ∷ [])
      ≡ true ∷ false ∷ true ∷ []
  -- the file of a slot, the slot of a file, the slot that is taken next, and the number of the file that is made next
  pub in_slot :
      map (λ n. file_in_slot slot_again_load (older slot_again n) 0) (2 ∷ 3 ∷ 7 ∷ [])
      ≡ Some (file 0) ∷ None ∷ Some (file 2) ∷ []
  pub slots : map (λ s. slot_of slot_again_load slot_again (file s)) (0 ∷ 1 ∷ 2 ∷ 3 ∷ []) ≡ slot 0 ∷ slot 1 ∷ slot 0 ∷ slot 2 ∷ []
  pub free_slots :
      map (λ n. free_slot (live_files slot_again_load (older slot_again n))) (2 ∷ 3 ∷ 7 ∷ 11 ∷ [])
      ≡ Some 2 ∷ Some 0 ∷ Some 2 ∷ Some 3 ∷ []
  pub numbers :
      map (λ n. next_serial slot_again_load (older slot_again n)) (2 ∷ 3 ∷ 7 ∷ 11 ∷ [])
      ≡ file 2 ∷ file 2 ∷ file 3 ∷ file 4 ∷ []
  -- a name is that of the last file that was made with it
  pub named :
      map (λ n. live_named slot_again_load (older slot_again n) (codes "a")) (2 ∷ 3 ∷ 7 ∷ [])
      ≡ Some (file 0) ∷ None ∷ Some (file 2) ∷ []
  pub no_slot : free_slot (live_files no_slot_load no_slot) ≡ None

pub record FiledStates : Type 0 where
  pub space : WorkedSpace
  pub growth : WorkedGrowth
  pub slots : WorkedSlots
