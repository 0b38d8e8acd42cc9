-- What is known of the maps of files in every history that an accepted workload may have, and of the run that writeback
-- serves.
use Rattle.std.specs.Prelude.{◌≡◌, ℕ, ◌+◌, ◌<◌, ◌≤◌, List, length, is_some, Bool, true, ◌||◌, Some, IsTrue}
use Rattle.split_types.specs.declared.ids.Serial.{Serial}
use Rattle.split_types.specs.declared.buf.Buf.TheVariants.{Page}
use Rattle.split_types.specs.declared.request.Run.{Run}
use Rattle.split_types.specs.declared.request.Service.TheVariants.{Mapped}
use Rattle.split_types.specs.declared.workload.Workload.{Workload}
use Rattle.split_types.specs.declared.event.Event.{Event}
use Rattle.split_types.specs.History.{◌▹◌}
use Rattle.split_types.specs.Workloads.{first_block}
use Rattle.split_types.specs.Files.{is_live}
use Rattle.split_types.specs.Pages.{is_put_since, is_ready}
use Rattle.split_types.specs.FileMaps.{mapped_block, is_in_map, is_going, free_blocks, reserved_pages}
use Rattle.split_types.specs.ServedRuns.{are_apart}
use Rattle.split_types.specs.Writeback.{service, served_run}
use Rattle.split_types.specs.FilesInOrder.{all_files}
use Rattle.split_types.specs.Accepted.{IsAccepted}
use Rattle.split_types.specs.Legal.{IsLegal}

-- the blocks of the file aren't free: it is there, or its drop isn't committed
abbrev pub keeps_blocks : Workload → List Event → ℕ → Bool
keeps_blocks w h s = is_live w h s || is_going h s

-- page g of file s is one that a file may have, and its block x is one of data
pub record IsPlaced (w : Workload) (h : List Event) (s g x : ℕ) : Type 0 where
  pub numbered : s < all_files w h
  pub page : g < 1008
  pub from : first_block w ≤ x
  pub to : x < w.device

-- two pages whose files keep their blocks have no block in common; the blocks of a map are those of its pages
pub record AreMaps (w : Workload) (h : List Event) : Type 0 where
  pub placed : (s g x : ℕ) → mapped_block w h s g ≡ Some x → IsPlaced w h s g x
  pub apart : (s t g k x : ℕ) → mapped_block w h s g ≡ Some x → mapped_block w h t k ≡ Some x
      → IsTrue (keeps_blocks w h s) → IsTrue (keeps_blocks w h t) → (s ≡ t) × (g ≡ k)
  pub in_map : (s g x : ℕ) → mapped_block w h s g ≡ Some x → IsTrue (is_in_map w h s x)
  pub of_map : (s x : ℕ) → IsTrue (is_in_map w h s x) → (g : ℕ) × (mapped_block w h s g ≡ Some x)
  -- a page that was put is one that a file may have
  pub put : (s : Serial) (g : ℕ) → IsTrue (is_put_since h (Page s g)) → (s.0 < all_files w h) × (g < 1008)

-- a run of 1 to 16 pages that a file may have, without blocks or with blocks in a row; they may be served while the file
-- is there
pub record IsServed (w : Workload) (h : List Event) (run : Run) : Type 0 where
  pub numbered : run.serial.0 < all_files w h
  pub some : 1 ≤ run.n
  pub most : run.n ≤ 16
  pub within : run.page + run.n ≤ 1008
  pub in_a_row : (k : ℕ) → k < run.n
      → are_apart k (mapped_block w h run.serial.0 run.page) (mapped_block w h run.serial.0 (run.page + k)) ≡ true
  pub ready : IsTrue (is_live w h run.serial.0) → (k : ℕ) → k < run.n
      → IsTrue (is_ready w h (Page run.serial (run.page + k)))

pub record MapsAreInOrder : Type 0 where
  pub maps : (w : Workload) (h : List Event) → IsAccepted w → IsLegal w h → AreMaps w h
  -- a page that has a block keeps it
  pub stays : (w : Workload) (h : List Event) (e : Event) (s g x : ℕ) → IsAccepted w → IsLegal w (h ▹ e)
      → mapped_block w h s g ≡ Some x → mapped_block w (h ▹ e) s g ≡ Some x
  pub served : (w : Workload) (h : List Event) (run : Run) → IsAccepted w → IsLegal w h
      → served_run (service h) ≡ Some run → IsServed w h run
  pub mapped : (w : Workload) (h : List Event) (run : Run) → IsAccepted w → IsLegal w h → service h ≡ Mapped run
      → IsTrue (is_some (mapped_block w h run.serial.0 run.page))
  -- no more pages without blocks are dirty than blocks are free
  pub promised : (w : Workload) (h : List Event) → IsAccepted w → IsLegal w h
      → length (reserved_pages w h) ≤ length (free_blocks w h)
