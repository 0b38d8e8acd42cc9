-- The maps of files are in order in every legal history of an accepted workload, and so is the run that is served.
use Rattle.std.proofs.Common.{◌≡◌, ℕ, ◌+◌, ◌-◌, ◌/◌, ◌<◌, ◌≤◌, List, [], length, max, nat_lt, Bool, true, false, Some, None, refl, arith, subst, ap, ◌∙◌, if◌then◌else◌}
use Rattle.std.proofs.lemmas.Bool.Decides.{nat_tests}
use Rattle.std.proofs.lemmas.Option.{same_Some}
use Rattle.split_types.specs.declared.ids.Pid.{Pid}
use Rattle.split_types.specs.declared.ids.Serial.{Serial}
use Rattle.split_types.specs.declared.call.Call.TheVariants.{Write}
use Rattle.split_types.specs.declared.request.Run.{Run}
use Rattle.split_types.specs.declared.workload.Workload.{Workload}
use Rattle.split_types.specs.declared.event.Event.{Event}
use Rattle.split_types.specs.History.{◌▹◌, adds}
use Rattle.split_types.specs.Hooks.{maker}
use Rattle.split_types.specs.Calls.{moved}
use Rattle.split_types.specs.Files.{is_live, bound_file}
use Rattle.split_types.specs.FileSizes.{disk_size_of, size_at_admit}
use Rattle.split_types.specs.FileMaps.{mapped_block, free_blocks, reserved_pages}
use Rattle.split_types.specs.FileSlots.{slot_of}
use Rattle.split_types.specs.ServedRuns.{FreeRun}
use Rattle.split_types.specs.Pieces.{Piece, piece_at, next_piece}
use Rattle.split_types.specs.Writeback.{served_run}
use Rattle.split_types.specs.Serving.{service_state, bytes_up_to, map_of}
use Rattle.split_types.specs.Accepted.{IsAccepted}
use Rattle.split_types.specs.Legal.{IsLegal}
use Rattle.split_types.specs.MapsInOrder.{IsPlaced, AreMaps, IsServed, MapsAreInOrder}
use Rattle.split_types.specs.Proving.Came.{Came, IsAtPiece, journal_request}
use Rattle.split_types.specs.Proving.Came.Came.{came_enter, came_admit, came_changed, came_exists, came_no_slot, came_make, came_drop, came_no_file, came_too_big}
use Rattle.split_types.specs.Proving.Came.Came.{came_wrote, came_read, came_fault, came_no_space, came_put, came_get, came_zeros, came_evict, came_load}
use Rattle.split_types.specs.Proving.Came.Came.{came_flushed, came_synced, came_serve, came_skip, came_map, came_grow, came_add, came_seal, came_journal, came_send, came_done}
use Rattle.split_types.proofs.CameLaws.{came}
use Rattle.split_types.proofs.FileLaws.{live_of}
use Rattle.split_types.proofs.JournalAdds.{of_journal}
use Rattle.split_types.proofs.MapBlocks.{IsPlacing, map_stays}
use Rattle.split_types.proofs.MapRuns.{free_is}
use Rattle.split_types.proofs.MapState.{ServesOf, MapsOf, keeps_of, keeps_is}
use Rattle.split_types.proofs.MapSteps.{step_make, step_drop, step_put, step_load, step_done, step_serve, step_skip, step_add, step_journal}
use Rattle.split_types.proofs.MapPlacing.{serves_next, placing_new, placing_old, step_map}
use Rattle.split_types.proofs.MapStart.{maps_start}

-- ---- a write that puts a piece
-- a piece of so many bytes that end within a file of the greatest size
page_of_piece : (off len size moved : ℕ) (name : List ℕ) (fill : ℕ) (piece : Piece) → off + len ≤ 4128768
    → next_piece (Write name off len fill) size moved ≡ Some piece → piece.page < 1008
page_of_piece off len size moved name fill piece fits at = by_test (nat_lt moved len) refl at
  where
    by_test : (b : Bool) → nat_lt moved len ≡ b
        → (if b then Some (piece_at (off + moved) (len - moved)) else None) ≡ Some piece → piece.page < 1008
    by_test true is same =
        let below : moved < len = grind (arith, nat_tests) in
        let page : (off + moved) / 4096 ≡ piece.page =
        ap (λ x. x.page) (same_Some (piece_at (off + moved) (len - moved)) piece same) in
        omega (arith, page, below, fits)
    by_test false is same = absurd (cc)

piece_below : (w : Workload) (h : List Event) (p : Pid) (name : List ℕ) (off len fill : ℕ) (serial : Serial)
    (piece : Piece) → IsAtPiece w h p (Write name off len fill) serial piece → piece.page < 1008
piece_below w h p name off len fill serial piece here =
    page_of_piece off len (size_at_admit w h p.0) (moved h p.0) name fill piece here.fits
    (subst (λ o. (elim o [ None ↦ None | Some d ↦ next_piece d (size_at_admit w h p.0) (moved h p.0) ]) ≡ Some piece)
    here.working.admitted.has.call here.left)

-- ---- through one event
-- what is known after it, and that pages keep their blocks
record Goes (w : Workload) (h : List Event) (e : Event) : Type 0 where
  maps : MapsOf w (h ▹ e)
  stays : (s g x : ℕ) → mapped_block w h s g ≡ Some x → mapped_block w (h ▹ e) s g ≡ Some x

-- through a map of pages without blocks
goes_new : (w : Workload) (h : List Event) (run : Run) (free : FreeRun) → MapsOf w h → ServesOf w h run
    → is_live w h run.serial.0 ≡ true
    → IsPlacing w (λ s g. mapped_block w h s g) (keeps_of w h) run.serial.0 run.page free.n free.first
    → 1 ≤ free.n → free.n ≤ run.n → Goes w h (map_of (service_state w h run) free.n free.first true)
goes_new w h run free f serves live placing some most = record {
  maps = step_map w h (slot_of w h run.serial) run free.n free.first true
      (max (disk_size_of w h run.serial.0) (bytes_up_to (service_state w h run) free.n)) f serves live placing
      some most;
  stays =
      λ s g x at.
      map_stays w (λ s g. mapped_block w h s g) (keeps_of w h) run.serial.0 run.page free.n free.first s g x placing at;
}

-- through a map of pages that have blocks
goes_old : (w : Workload) (h : List Event) (run : Run) (block : ℕ) → MapsOf w h → ServesOf w h run
    → is_live w h run.serial.0 ≡ true
    → IsPlacing w (λ s g. mapped_block w h s g) (keeps_of w h) run.serial.0 run.page run.n block
    → Goes w h (map_of (service_state w h run) run.n block false)
goes_old w h run block f serves live placing = record {
  maps = step_map w h (slot_of w h run.serial) run run.n block false
      (max (disk_size_of w h run.serial.0) (bytes_up_to (service_state w h run) run.n)) f serves live placing
      serves.some (omega arith);
  stays =
      λ s g x at.
      map_stays w (λ s g. mapped_block w h s g) (keeps_of w h) run.serial.0 run.page run.n block s g x placing at;
}

-- through any event that comes next
goes : (w : Workload) (h : List Event) (e : Event) → MapsOf w h → Came w h e → Goes w h e
goes w h e f (came_enter p c has out) = record { maps = f; stays = λ s g x at. at }
goes w h e f (came_admit p c has in_call out may) = record { maps = f; stays = λ s g x at. at }
goes w h e f (came_changed p c admitted names acted) = record { maps = f; stays = λ s g x at. at }
goes w h e f (came_exists p name admitted idle taken) = record { maps = f; stays = λ s g x at. at }
goes w h e f (came_no_slot p name admitted idle unused full) = record { maps = f; stays = λ s g x at. at }
goes w h e f (came_make p name slot admitted idle unused free) = record {
  maps = step_make w h p (record { 0 = slot }) f;
  stays = λ s g x at. at;
}
goes w h e f (came_drop p name serial working idle) = record {
  maps = step_drop w h p (slot_of w h serial) serial f (live_of w h (bound_file w h p.0) serial working.file);
  stays = λ s g x at. at;
}
goes w h e f (came_no_file p c admitted none) = record { maps = f; stays = λ s g x at. at }
goes w h e f (came_too_big p name off len fill serial working big) = record { maps = f; stays = λ s g x at. at }
goes w h e f (came_wrote p name off len fill serial working left) = record { maps = f; stays = λ s g x at. at }
goes w h e f (came_read p name off len serial working left) = record { maps = f; stays = λ s g x at. at }
goes w h e f (came_fault p c serial piece working left bad) = record { maps = f; stays = λ s g x at. at }
goes w h e f (came_no_space p name off len fill serial piece here out none) = record {
  maps = f;
  stays = λ s g x at. at;
}
goes w h e f (came_put p name off len fill serial piece here may) = record {
  maps = step_put w h p serial piece.page piece.from piece.to fill f
      (live_of w h (bound_file w h p.0) serial here.working.file)
      (piece_below w h p name off len fill serial piece here);
  stays = λ s g x at. at;
}
goes w h e f (came_get p name off len serial piece here held) = record { maps = f; stays = λ s g x at. at }
goes w h e f (came_zeros p name off len serial piece here absent none) = record { maps = f; stays = λ s g x at. at }
goes w h e f (came_evict p c serial piece here absent s g found) = record { maps = f; stays = λ s g x at. at }
goes w h e f (came_load p c serial piece here absent block at) = record {
  maps = step_load w h p serial piece.page block f;
  stays = λ s g x at. at;
}
goes w h e f (came_flushed p name serial working idle written) = record { maps = f; stays = λ s g x at. at }
goes w h e f (came_synced p name serial working acted safe) = record { maps = f; stays = λ s g x at. at }
goes w h e f (came_serve run idle found) = record {
  maps = step_serve w h run f (serves_next w h run f found);
  stays = λ s g x at. at;
}
goes w h e f (came_skip run served gone) = record { maps = step_skip w h f; stays = λ s g x at. at }
goes w h e f (came_map run free serves live none found) =
    let serving = f.served run (ap served_run serves) in
    let is = free_is (free_blocks w h) run.n free found in
    goes_new w h run free f serving live (placing_new w h run free f serving none found) (is.some serving.some) is.most
goes w h e f (came_grow run block serves live first short) =
    let serving = f.served run (ap served_run serves) in
    goes_old w h run block f serving live (placing_old w h run block f serving live first)
goes w h e f (came_add run block served live first long) = record {
  maps = step_add w h run block f;
  stays = λ s g x at. at;
}
goes w h e f (came_seal may) = record { maps = f; stays = λ s g x at. at }
goes w h e f (came_journal kind first n j) = record {
  maps = step_journal w h (journal_request (adds h) kind first n) (of_journal w h (adds h) kind first n j) f;
  stays = λ s g x at. at;
}
goes w h e f (came_send r free picked) = record { maps = f; stays = λ s g x at. at }
goes w h e f (came_done k r there) = record { maps = step_done w h k r.id f; stays = λ s g x at. at }

-- what is known in every legal history
pub maps_of : (w : Workload) (h : List Event) → IsAccepted w → IsLegal w h → MapsOf w h
maps_of w [] accepted legal = maps_start w accepted
maps_of w (h ▹ e) accepted legal =
    (goes w h e (maps_of w h accepted legal.1) (came w h (maker e) e legal.0)).maps

-- ---- what is proved
placed : (w : Workload) (h : List Event) → MapsOf w h → (s g x : ℕ) → mapped_block w h s g ≡ Some x → IsPlaced w h s g x
placed w h f s g x at = record {
  numbered = f.numbered s (f.kept s g x at);
  page = f.blocks.page s g x at;
  from = f.blocks.from s g x at;
  to = f.blocks.to s g x at;
}

are_maps : (w : Workload) (h : List Event) → MapsOf w h → AreMaps w h
are_maps w h f = record {
  placed = placed w h f;
  apart = λ s t g k x at there keeps also.
      f.blocks.apart s t g k x at there (keeps_is w h s ∙ keeps) (keeps_is w h t ∙ also);
  in_map = f.blocks.in_map;
  of_map = f.blocks.of_map;
  put = f.put;
}

is_served : (w : Workload) (h : List Event) (run : Run) → ServesOf w h run → IsServed w h run
is_served w h run s = record {
  numbered = s.numbered;
  some = s.some;
  most = s.most;
  within = s.within;
  in_a_row = s.in_a_row;
  ready = s.all_ready;
}

pub maps_are_in_order : ((w : Workload) (h : List Event) → IsAccepted w → IsLegal w h
    → length (reserved_pages w h) ≤ length (free_blocks w h))
    → MapsAreInOrder
maps_are_in_order promised = record {
  maps = λ w h accepted legal. are_maps w h (maps_of w h accepted legal);
  stays = λ w h e s g x accepted legal at.
      (goes w h e (maps_of w h accepted legal.1) (came w h (maker e) e legal.0)).stays s g x at;
  served = λ w h run accepted legal at. is_served w h run ((maps_of w h accepted legal).served run at);
  mapped = λ w h run accepted legal at. (maps_of w h accepted legal).mapped run at;
  promised = promised;
}
