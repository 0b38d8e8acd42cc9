-- What writeback does next.
use Rattle.std.specs.Prelude.{ℕ, ◌+◌, ◌*◌, List, min, max, nat_lt, Bool, true, false, not, Option, Some, None}
use Rattle.split_types.specs.declared.ids.Slot.{Slot}
use Rattle.split_types.specs.declared.actor.Actor.TheVariants.{Wb}
use Rattle.split_types.specs.declared.request.ReqKind.TheVariants.{Pages}
use Rattle.split_types.specs.declared.request.Request.{Request}
use Rattle.split_types.specs.declared.request.Run.{Run}
use Rattle.split_types.specs.declared.request.Service.{Service}
use Rattle.split_types.specs.declared.request.Service.TheVariants.{Idle, Serving, Mapped}
use Rattle.split_types.specs.declared.workload.Workload.{Workload}
use Rattle.split_types.specs.declared.event.Event.{Event}
use Rattle.split_types.specs.declared.event.Event.TheVariants.{Serve, Map, Skip, Add}
use Rattle.split_types.specs.History.{adds}
use Rattle.split_types.specs.Rows.{◌⇒◌∣◌}
use Rattle.split_types.specs.Files.{is_live}
use Rattle.split_types.specs.FileSizes.{size_of, disk_size_of}
use Rattle.split_types.specs.FileMaps.{mapped_block}
use Rattle.split_types.specs.FileSlots.{slot_of}
use Rattle.split_types.specs.ServedRuns.{FreeRun, run_to_serve, free_run}
use Rattle.split_types.specs.Writeback.{service}

-- ---- what decides

-- what decides how a service goes on: one field for each phrase of its table
pub record ServiceState : Type 0 where
  -- its run, and the slot of the run's file, which is there
  pub run : Run
  pub slot : Slot
  pub live : Bool
  -- the block of the run's first page; none where its pages have none
  pub block : Option ℕ
  -- the size of the file, and the one that its inode says
  pub size : ℕ
  pub disk_size : ℕ
  -- the free blocks for its pages; none where no block is free
  pub free : Option FreeRun
  -- the number of requests so far
  pub adds : ℕ

abbrev pub service_state : Workload → List Event → Run → ServiceState
service_state w h run = record {
  run = run;
  slot = slot_of w h run.serial;
  live = is_live w h run.serial.0;
  block = mapped_block w h run.serial.0 run.page;
  size = size_of w h run.serial.0;
  disk_size = disk_size_of w h run.serial.0;
  free = free_run w h run.n;
  adds = adds h;
}

-- ---- the table of a service

-- the bytes of the file up to the end of so many pages of its run
abbrev pub bytes_up_to : ServiceState → ℕ → ℕ
bytes_up_to s n = min s.size (4096 * (s.run.page + n))

-- the first n pages of the run get the blocks from this one on, or keep them; the inode says at least the bytes of the
-- file up to the end of these pages
abbrev pub map_of : ServiceState → ℕ → ℕ → Bool → Event
map_of s n block new =
    Map s.slot s.run.serial s.run.page n block new (max s.disk_size (bytes_up_to s n))

-- the pages of the run get free blocks
abbrev pub map_free : ServiceState → Option Event
map_free s = elim s.free [ None ↦ None | Some f ↦ Some (map_of s f.n f.first true) ]

-- the request that writes a run out to the blocks from this one on; id is the number of requests before it
abbrev pub request_for : ℕ → Run → ℕ → Request
request_for id run block = record {
  id = record { 0 = id };
  kind = Pages run.serial run.page;
  first = block;
  n = run.n;
}

abbrev pub add_of : ServiceState → ℕ → Event
add_of s block = Add Wb (request_for s.adds s.run block)

-- a run whose pages have the blocks from this one on is written out once the inode says all its bytes of the file
abbrev pub next_of_placed : ServiceState → ℕ → Option Event
next_of_placed s block =
    nat_lt s.disk_size (bytes_up_to s s.run.n) ⇒ Some (map_of s s.run.n block false)
    ∣ Some (add_of s block)

-- a run that was served
abbrev pub next_of_serving : ServiceState → Option Event
next_of_serving s = elim s.block [ None ↦ map_free s | Some block ↦ next_of_placed s block ]

-- a run that was mapped
abbrev pub next_of_mapped : ServiceState → Option Event
next_of_mapped s = elim s.block [ None ↦ None | Some block ↦ Some (add_of s block) ]

-- a run whose file was dropped is skipped
abbrev pub unless_dropped : ServiceState → Option Event → Option Event
unless_dropped s e = not s.live ⇒ Some Skip ∣ e

-- the serve of a run from the first page that is ready; none where no page is
abbrev pub next_serve : Workload → List Event → Option Event
next_serve w h = elim (run_to_serve w h) [ None ↦ None | Some run ↦ Some (Serve run.serial run.page run.n) ]

-- writeback's table
abbrev pub next_in_service : Workload → List Event → Service → Option Event
next_in_service w h Idle = next_serve w h
next_in_service w h (Serving run) = unless_dropped (service_state w h run) (next_of_serving (service_state w h run))
next_in_service w h (Mapped run) = unless_dropped (service_state w h run) (next_of_mapped (service_state w h run))

abbrev pub next_of_writeback : Workload → List Event → Option Event
next_of_writeback w h = next_in_service w h (service h)
