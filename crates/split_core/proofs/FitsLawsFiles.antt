-- What a process or a map does with files and their pages fits.
use Rattle.std.proofs.Common.{◌≡◌, ℕ, ◌*◌, ◌<◌, ◌≤◌, max, List, [], length, Bool, true, false, ◌||◌, is_none}
use Rattle.std.proofs.Common.{is_some, Option, Some, None, refl, ap, sym, ◌∙◌, arith}
use Rattle.split_types.specs.declared.ids.Pid.{Pid}
use Rattle.split_types.specs.declared.ids.Serial.{Serial}
use Rattle.split_types.specs.declared.buf.Buf.TheVariants.{Page}
use Rattle.split_types.specs.declared.call.Call.TheVariants.{Creat, Write, Read}
use Rattle.split_types.specs.declared.request.Run.{Run}
use Rattle.split_types.specs.declared.request.Service.TheVariants.{Serving}
use Rattle.split_types.specs.declared.workload.Workload.{Workload}
use Rattle.split_types.specs.declared.event.Event.{Event}
use Rattle.split_types.specs.declared.event.Event.TheVariants.{Make}
use Rattle.split_types.specs.History.{◌▹◌}
use Rattle.split_types.specs.Calls.{call_of}
use Rattle.split_types.specs.Files.{is_live, live_named, is_name_taken}
use Rattle.split_types.specs.FileSizes.{disk_size_of}
use Rattle.split_types.specs.FileMaps.{mapped_block, makes}
use Rattle.split_types.specs.FileSlots.{live_files, next_serial, slot_of}
use Rattle.split_types.specs.LiveFiles.{free_slot}
use Rattle.split_types.specs.HeldPages.{is_held}
use Rattle.split_types.specs.Pieces.{Piece, is_whole}
use Rattle.split_types.specs.Serving.{service_state, bytes_up_to}
use Rattle.split_types.specs.Writeback.{service, served_run}
use Rattle.split_types.specs.Accepted.{IsAccepted}
use Rattle.split_types.specs.Legal.{IsLegal}
use Rattle.split_types.specs.Proving.Came.{IsAdmitted, IsAtPiece, MayPut}
use Rattle.split_types.specs.Proving.Came.Came.{came_put}
use Rattle.split_types.proofs.Shared.{files_are_in_order, maps_known, short, put_in, get_in, moved_most, got_most}
use Rattle.split_types.proofs.Shared.{size_most, disk_size_most}
use Rattle.split_core.specs.Fits.{IsFilePage, MakeFits, DropFits, PutFits, GetFits, MapFits, MapsKind}

-- ---- files
-- a file that is there stands in its slot
pub drop_fits : (w : Workload) (h : List Event) (s : Serial) → IsAccepted w → IsLegal w h → is_live w h s.0 ≡ true
    → DropFits w h (slot_of w h s) s
drop_fits w h s accepted legal live = record {
  live = live;
  slot_is = refl;
  in_slot = ((files_are_in_order w h accepted legal).live s live).in_slot;
}

makes_most : (h : List Event) → makes h ≤ length h
makes_most [] = omega arith
makes_most (h ▹ Make by slot serial) = omega (arith, makes_most h)
makes_most (h ▹ e) = omega (arith, makes_most h)

nothing : (o : Option Serial) → is_some o ≡ false → o ≡ None
nothing None is = refl
nothing (Some s) is = absurd (cc)

pub make_fits : (w : Workload) (h : List Event) (by : Pid) (name : List ℕ) (slot : ℕ) → IsAccepted w → IsLegal w h
    → IsAdmitted w h by (Creat name) → is_name_taken w h (call_of w h by.0) ≡ false
    → free_slot (live_files w h) ≡ Some slot → MakeFits w h by (record { 0 = slot }) (next_serial w h)
make_fits w h by name slot accepted legal admitted unused at = record {
  name = name;
  call = admitted.has.call;
  fresh = nothing (live_named w h name) (sym (ap (is_name_taken w h) admitted.has.call) ∙ unused);
  slot_is = at;
  serial_is = refl;
  few = omega (arith, makes_most h, short w h accepted legal, accepted.workload.presets.few);
}

-- ---- pieces
pub file_page : (w : Workload) (h : List Event) (s : Serial) (g : ℕ) → IsAccepted w → IsLegal w h
    → is_live w h s.0 ≡ true → g < 1008 → IsFilePage w h s g
file_page w h s g accepted legal live page = record {
  live = live;
  numbered = ((files_are_in_order w h accepted legal).live s live).numbered;
  page = page;
}

-- held, or whole, or without a block
one_of : (held whole none : Bool) → (held || (whole || none)) ≡ true → (held || whole || none) ≡ true
one_of true whole none is = refl
one_of false whole none is = is

pub put_fits : (w : Workload) (h : List Event) (by : Pid) (name : List ℕ) (off len fill : ℕ) (s : Serial)
    (piece : Piece) → IsAccepted w → IsLegal w h → IsAtPiece w h by (Write name off len fill) s piece
    → MayPut w h (Page s piece.page) piece (mapped_block w h s.0 piece.page)
    → PutFits w h by s piece.page piece.from piece.to fill
put_fits w h by name off len fill s piece accepted legal here may =
    let p =
    put_in w h by s piece.page piece.from piece.to fill accepted (came_put by name off len fill s piece here may)
    in record {
      page = file_page w h s piece.page accepted legal p.file p.page;
      some = p.some;
      most = p.to_most;
      byte = p.fill_most;
      short = omega (arith, moved_most w h by.0 accepted legal);
      loaded = here.there;
      room = may.room;
      whole =
          one_of (is_held w h (Page s piece.page)) (is_whole piece) (is_none (mapped_block w h s.0 piece.page)) may.known;
      space = may.space;
    }

pub get_fits : (w : Workload) (h : List Event) (by : Pid) (name : List ℕ) (off len : ℕ) (s : Serial) (piece : Piece)
    (sum : ℕ) → IsAccepted w → IsLegal w h → IsAtPiece w h by (Read name off len) s piece → sum ≤ 255 * 4096
    → (is_held w h (Page s piece.page) || is_none (mapped_block w h s.0 piece.page)) ≡ true
    → GetFits w h by s piece.page piece.from piece.to sum
get_fits w h by name off len s piece sum accepted legal here small held =
    let p = get_in w h by name off len s piece accepted legal here
    in let few = moved_most w h by.0 accepted legal
    in record {
      page = file_page w h s piece.page accepted legal p.file p.page;
      some = p.some;
      most = p.most;
      short = omega (arith, few);
      small = omega (arith, few, got_most w h by.0 accepted legal, small);
      loaded = here.there;
      held = held;
    }

-- ---- maps
pub map_fits : (w : Workload) (h : List Event) (run : Run) (n block : ℕ) (new : Bool) → IsAccepted w → IsLegal w h
    → service h ≡ Serving run → is_live w h run.serial.0 ≡ true → MapsKind w h run n block new
    → MapFits w h (slot_of w h run.serial) run.serial run.page n block new
    (max (disk_size_of w h run.serial.0) (bytes_up_to (service_state w h run) n))
map_fits w h run n block new accepted legal serves live kind = record {
  run = run;
  served = serves;
  serial = refl;
  page = refl;
  within = (maps_known.served w h run accepted legal (ap served_run serves)).within;
  file = drop_fits w h run.serial accepted legal live;
  most =
      omega (
        arith,
        size_most w h run.serial.0 accepted legal,
        disk_size_most w h run.serial.0 legal,
      );
  kind = kind;
}
