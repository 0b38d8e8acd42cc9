-- Sizes and blocks of files, and bytes of pages and of the disk, in the histories that serve as examples.
use Rattle.std.specs.Prelude.{◌≡◌, ℕ, List, [], ◌∷◌, length, map, sum, slice_range, codes, true, false, Option, Some, None}
use Rattle.split_types.specs.declared.request.Run.{Run}
use Rattle.split_types.specs.declared.workload.Workload.{Workload}
use Rattle.split_types.specs.declared.event.Event.{Event}
use Rattle.split_types.specs.History.{older}
use Rattle.split_types.specs.Examples.{file, writer_between_serve_and_map, two_creators}
use Rattle.split_types.specs.FileSizes.{size_of, disk_size_of, working_file}
use Rattle.split_types.specs.FileMaps.{mapped_block, is_taken, is_waiting, reserved_pages, is_in_mapped_run}
use Rattle.split_types.specs.FileSlots.{file_in_slot, file_name, next_serial}
use Rattle.split_types.specs.ServedRuns.{FreeRun, run_to_serve, free_run}
use Rattle.split_types.specs.PageBytes.{page_bytes, sum_of_bytes}
use Rattle.split_types.specs.DiskBytes.{disk_block}
use Rattle.split_types.specs.Pieces.{Piece, piece_left, got}
use Rattle.split_types.specs.CacheExamples.{two_in_flight, two_in_flight_load, small_cache, small_cache_load, part_of_page, part_of_page_load, past_the_end, past_the_end_load, dropped_file, dropped_file_load, new_page_load, two_creators_load}
use Rattle.split_types.specs.WorkedCaches.{page}

-- ---- short forms

abbrev pub piece : ℕ → ℕ → ℕ → Piece
piece page from to = record { page = page; from = from; to = to }

abbrev pub run : ℕ → ℕ → Run
run page n = record { serial = file 0; page = page; n = n }

abbrev pub free_from : ℕ → ℕ → FreeRun
free_from first n = record { first = first; n = n }

-- the first piece that is left of the call of process 1 after so many events
abbrev pub piece_after : Workload → List Event → ℕ → Option Piece
piece_after w h n = piece_left w (older h n) 1

-- the sums of the bytes of some blocks of the disk after a history
abbrev pub block_sums : Workload → List Event → List ℕ → List ℕ
block_sums w h blocks = map (λ x. sum (disk_block w h x)) blocks

-- some bytes of a block of the disk after so many events
abbrev pub block_part : Workload → List Event → ℕ → ℕ → ℕ → ℕ → List ℕ
block_part w h x from to n = slice_range (disk_block w (older h n) x) from to

-- ---- pieces, and bytes of pages

pub record WorkedPieces : Type 0 where
  pub of_three_pages :
      map (piece_after small_cache_load small_cache) (2 ∷ 3 ∷ 14 ∷ [])
      ≡ Some (piece 0 0 4096) ∷ Some (piece 1 0 4096) ∷ None ∷ []
  -- a read that begins behind the end, one that ends behind it, and one that names no file
  pub past_the_end_pieces :
      map (piece_after past_the_end_load past_the_end) (2 ∷ 5 ∷ 9 ∷ 12 ∷ [])
      ≡ None ∷ Some (piece 0 4090 4096) ∷ None ∷ None ∷ []
  pub past_the_end_files :
      map (λ n. working_file past_the_end_load (older past_the_end n) 1) (2 ∷ 12 ∷ []) ≡ Some (file 0) ∷ None ∷ []
  pub past_the_end_got : map (λ n. got (older past_the_end n) 1) (8 ∷ 9 ∷ 11 ∷ []) ≡ 0 ∷ 390 ∷ 0 ∷ []
  -- a put of a part of a page
  pub part_of_page_bytes :
      map (λ n. slice_range (page_bytes part_of_page_load (older part_of_page n) (file 0) 0) 8 17) (5 ∷ 6 ∷ [])
      ≡ (65 ∷ 65 ∷ 65 ∷ 65 ∷ 65 ∷ 65 ∷ 65 ∷ 65 ∷ 65 ∷ [])
      ∷ (65 ∷ 65 ∷ 66 ∷ 66 ∷ 66 ∷ 66 ∷ 66 ∷ 65 ∷ 65 ∷ [])
      ∷ []
  pub part_of_page_sum : sum_of_bytes part_of_page_load part_of_page (file 0) 0 0 20 ≡ 1305

-- ---- files and their blocks

-- a new page gets a block when its run is mapped
pub record WorkedMaps : Type 0 where
  pub sizes : map (λ n. size_of new_page_load (older writer_between_serve_and_map n) 0) (2 ∷ 3 ∷ []) ≡ 0 ∷ 4096 ∷ []
  pub disk_sizes :
      map (λ n. disk_size_of new_page_load (older writer_between_serve_and_map n) 0) (9 ∷ 10 ∷ []) ≡ 0 ∷ 4096 ∷ []
  pub maps :
      map (λ n. mapped_block new_page_load (older writer_between_serve_and_map n) 0 0) (9 ∷ 10 ∷ [])
      ≡ None ∷ Some 526 ∷ []
  pub reserved :
      map (λ n. reserved_pages new_page_load (older writer_between_serve_and_map n)) (2 ∷ 3 ∷ 9 ∷ 10 ∷ [])
      ≡ [] ∷ (page 0 ∷ []) ∷ (page 0 ∷ []) ∷ [] ∷ []
  pub in_mapped_run :
      map (λ n. is_in_mapped_run (older writer_between_serve_and_map n) (page 0)) (9 ∷ 10 ∷ 11 ∷ [])
      ≡ false ∷ true ∷ false ∷ []
  pub runs :
      map (λ n. run_to_serve new_page_load (older writer_between_serve_and_map n)) (2 ∷ 4 ∷ 11 ∷ [])
      ≡ None ∷ Some (run 0 1) ∷ None ∷ []
  pub free_runs :
      map (λ n. free_run new_page_load (older writer_between_serve_and_map n) 16) (9 ∷ 10 ∷ [])
      ≡ Some (free_from 526 16) ∷ Some (free_from 527 16) ∷ []

-- the block of a dropped file waits until the drop is committed, and is free then
pub record WorkedDrop : Type 0 where
  pub slots :
      map (λ n. file_in_slot dropped_file_load (older dropped_file n) 0) (6 ∷ 7 ∷ []) ≡ Some (file 0) ∷ None ∷ []
  pub taken :
      map (λ n. is_taken dropped_file_load (older dropped_file n) 526) (6 ∷ 7 ∷ 17 ∷ []) ≡ true ∷ false ∷ false ∷ []
  pub waiting :
      map (λ n. is_waiting dropped_file_load (older dropped_file n) 526) (6 ∷ 7 ∷ 16 ∷ 17 ∷ [])
      ≡ false ∷ true ∷ true ∷ false ∷ []

-- ---- the disk

pub record WorkedBlocks : Type 0 where
  pub two_in_flight_blocks :
      block_sums two_in_flight_load two_in_flight (526 ∷ 527 ∷ 528 ∷ []) ≡ 270336 ∷ 270336 ∷ 0 ∷ []
  pub small_cache_blocks :
      block_sums small_cache_load small_cache (526 ∷ 527 ∷ 528 ∷ []) ≡ 270336 ∷ 270336 ∷ 270336 ∷ []
  pub part_of_page_block : block_sums part_of_page_load part_of_page (526 ∷ []) ≡ 266245 ∷ []
  -- two files that were made: their names, and the directory once it is home
  pub names :
      map (file_name two_creators_load two_creators) (0 ∷ 1 ∷ []) ≡ codes "x" ∷ codes "yy" ∷ []
  pub next_file : next_serial two_creators_load two_creators ≡ file 2
  pub directory :
      map (block_part two_creators_load two_creators 2 0 6) (0 ∷ length two_creators ∷ [])
      ≡ (0 ∷ 0 ∷ 0 ∷ 0 ∷ 0 ∷ 0 ∷ []) ∷ (1 ∷ 0 ∷ 0 ∷ 0 ∷ 1 ∷ 120 ∷ []) ∷ []
  -- an inode goes through the log to its home; the commit block comes and goes
  pub inode_in_log :
      map (block_part new_page_load writer_between_serve_and_map 264 0 8) (16 ∷ 17 ∷ [])
      ≡ (0 ∷ 0 ∷ 0 ∷ 0 ∷ 0 ∷ 0 ∷ 0 ∷ 0 ∷ []) ∷ (1 ∷ 0 ∷ 0 ∷ 0 ∷ 0 ∷ 16 ∷ 0 ∷ 0 ∷ []) ∷ []
  pub inode_at_home :
      map (block_part new_page_load writer_between_serve_and_map 6 0 8) (25 ∷ 26 ∷ [])
      ≡ (1 ∷ 0 ∷ 0 ∷ 0 ∷ 0 ∷ 0 ∷ 0 ∷ 0 ∷ []) ∷ (1 ∷ 0 ∷ 0 ∷ 0 ∷ 0 ∷ 16 ∷ 0 ∷ 0 ∷ []) ∷ []
  pub commit_block :
      map (block_part new_page_load writer_between_serve_and_map 525 0 8) (20 ∷ 29 ∷ [])
      ≡ codes "SPLITJC1" ∷ (0 ∷ 0 ∷ 0 ∷ 0 ∷ 0 ∷ 0 ∷ 0 ∷ 0 ∷ []) ∷ []

pub record WorkedFiles : Type 0 where
  pub pieces : WorkedPieces
  pub maps : WorkedMaps
  pub drop : WorkedDrop
  pub blocks : WorkedBlocks
