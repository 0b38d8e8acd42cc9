-- What a client does next.
use Rattle.std.specs.Prelude.{ℕ, ◌+◌, List, Bool, nat_lt, not, ◌&&◌, option_map, Option, Some, None, if◌then◌else◌}
use Rattle.split_types.specs.declared.ids.Pid.{Pid}
use Rattle.split_types.specs.declared.ids.Serial.{Serial}
use Rattle.split_types.specs.declared.ids.Slot.{Slot}
use Rattle.split_types.specs.declared.actor.Actor.TheVariants.{Client}
use Rattle.split_types.specs.declared.buf.Buf.{Buf}
use Rattle.split_types.specs.declared.buf.Buf.TheVariants.{Page}
use Rattle.split_types.specs.declared.call.Call.{Call}
use Rattle.split_types.specs.declared.call.Call.TheVariants as call
use Rattle.split_types.specs.declared.call.Reply.TheVariants as reply
use Rattle.split_types.specs.declared.request.ReqKind.TheVariants as kind
use Rattle.split_types.specs.declared.workload.Workload.{Workload}
use Rattle.split_types.specs.declared.event.Event.{Event}
use Rattle.split_types.specs.declared.event.Event.TheVariants.{Enter, Admit, Make, Put, Get, Drop, Flushed, Ret, Add, Evict}
use Rattle.split_types.specs.History.{adds}
use Rattle.split_types.specs.Rows.{◌⇒◌∣◌}
use Rattle.split_types.specs.Calls.{returned, is_entered, is_admitted, has_acted, moved, call_of}
use Rattle.split_types.specs.Schedulers.{admits}
use Rattle.split_types.specs.Reads.{is_loading, is_read_badly}
use Rattle.split_types.specs.HeldPages.{is_held, is_full, is_unsettled, is_crowded}
use Rattle.split_types.specs.Victims.{victim}
use Rattle.split_types.specs.FileSizes.{working_file}
use Rattle.split_types.specs.Files.{is_name_taken, bound_file}
use Rattle.split_types.specs.FileMaps.{mapped_block, is_without_space, is_in_mapped_run}
use Rattle.split_types.specs.LiveFiles.{free_slot}
use Rattle.split_types.specs.FileSlots.{live_files, next_serial, slot_of_some}
use Rattle.split_types.specs.PageBytes.{sum_of_bytes}
use Rattle.split_types.specs.Pieces.{Piece, is_whole, piece_left, got}
use Rattle.split_types.specs.Syncing.{admit_place, is_written, awaited_txn, is_safe}

-- ---- what decides

-- what decides how a call goes on with a piece: one field for each phrase of the tables of pieces
pub record PieceState : Type 0 where
  -- the process, the file, and the bytes
  pub by : Pid
  pub serial : Serial
  pub piece : Piece
  -- a read of the page that this call added was done badly
  pub read_badly : Bool
  -- the bytes that the call has moved before
  pub moved : ℕ
  -- the page is loading; it is in the run that writeback has mapped and not added; it is dirty or busy; it is held
  pub loading : Bool
  pub in_mapped_run : Bool
  pub unsettled : Bool
  pub held : Bool
  -- the block of the page; none where it has none
  pub block : Option ℕ
  -- the page has no block, and none can be promised to it
  pub without_space : Bool
  -- too many pages are dirty or busy; no place of the cache is free; the page that is evicted next
  pub crowded : Bool
  pub full : Bool
  pub victim : Option Buf
  -- the number of requests so far
  pub adds : ℕ
  -- the sum of the bytes
  pub sum : ℕ

abbrev pub piece_state : Workload → List Event → Pid → Serial → Piece → PieceState
piece_state w h p serial piece = record {
  by = p;
  serial = serial;
  piece = piece;
  read_badly = is_read_badly h p.0 (Page serial piece.page);
  moved = moved h p.0;
  loading = is_loading w h (Page serial piece.page);
  in_mapped_run = is_in_mapped_run h (Page serial piece.page);
  unsettled = is_unsettled w h (Page serial piece.page);
  held = is_held w h (Page serial piece.page);
  block = mapped_block w h serial.0 piece.page;
  without_space = is_without_space w h (Page serial piece.page);
  crowded = is_crowded w h;
  full = is_full w h;
  victim = victim w h;
  adds = adds h;
  sum = sum_of_bytes w h serial piece.page piece.from piece.to;
}

-- what decides a client's next event: one field for each phrase of its table
pub record ClientState : Type 0 where
  -- the process
  pub by : Pid
  -- the number of its call under way, or else of its next call
  pub number : ℕ
  -- that call; none where no call is left
  pub call : Option Call
  -- the call is under way; the scheduler lets it in; it was admitted
  pub entered : Bool
  pub may_admit : Bool
  pub admitted : Bool
  -- it made its file, dropped it, or was flushed
  pub acted : Bool
  -- every put in its file before it was admitted is on the disk; the last change of its file before it was flushed is
  -- committed, or there is none
  pub flushable : Bool
  pub committed : Bool
  -- a file of the name of its call is there
  pub name_taken : Bool
  -- the least free slot, and the least number that no file ever had
  pub free_slot : Option ℕ
  pub new_serial : Serial
  -- the file that it is bound to, where that is still there, and its slot
  pub file : Option Serial
  pub slot : Slot
  -- the bytes that it has put or got, and the sum of those that it got
  pub moved : ℕ
  pub got : ℕ
  -- the first piece that is left; none where none is
  pub piece : Option PieceState

-- the state of the first piece that is left of the call of process p that works on a file
abbrev pub state_left : Workload → List Event → Pid → Option Serial → Option PieceState
state_left w h p None = None
state_left w h p (Some serial) = option_map (piece_state w h p serial) (piece_left w h p.0)

abbrev pub client_state : Workload → List Event → Pid → ClientState
client_state w h p = record {
  by = p;
  number = returned h p.0;
  call = call_of w h p.0;
  entered = is_entered h p.0;
  may_admit = admits w h p.0;
  admitted = is_admitted h p.0;
  acted = has_acted h p.0;
  flushable = is_written h (bound_file w h p.0) (admit_place h p.0);
  committed = is_safe h (awaited_txn w h p.0);
  name_taken = is_name_taken w h (call_of w h p.0);
  free_slot = free_slot (live_files w h);
  new_serial = next_serial w h;
  file = working_file w h p.0;
  slot = slot_of_some w h (working_file w h p.0);
  moved = moved h p.0;
  got = got h p.0;
  piece = state_left w h p (working_file w h p.0);
}

-- ---- the tables of pieces

-- the piece of a write is put, and that of a read is got
abbrev pub put_of : PieceState → ℕ → Event
put_of s fill = Put s.by s.serial s.piece.page s.piece.from s.piece.to fill

abbrev pub get_of : PieceState → ℕ → Event
get_of s sum = Get s.by s.serial s.piece.page s.piece.from s.piece.to sum

-- a request to read the page from its block
abbrev pub load_of : PieceState → ℕ → Event
load_of s block =
    Add (Client s.by) (record {
      id = record { 0 = s.adds };
      kind = kind.Read s.by s.serial s.piece.page;
      first = block;
      n = 1;
    })

-- a page, if there is one, is evicted by a process
abbrev pub evict_of : Pid → Option Buf → Option Event
evict_of by (Some (Page s g)) = Some (Evict by s g)
evict_of by _ = None

-- a write's piece in a page that isn't held, while a place is free
abbrev pub next_of_absent : PieceState → ℕ → Option Event
next_of_absent s fill =
    is_whole s.piece ⇒ Some (put_of s fill)
    ∣ elim s.block [ None ↦ Some (put_of s fill) | Some block ↦ Some (load_of s block) ]

-- the table of a write's pieces
abbrev pub next_of_put : PieceState → ℕ → Option Event
next_of_put s fill =
    s.read_badly ⇒ Some (Ret s.by reply.ReadFault)
    ∣ s.loading ⇒ None
    ∣ s.in_mapped_run ⇒ None
    ∣ s.without_space ⇒ Some (Ret s.by (reply.NoSpace s.moved))
    ∣ (not s.unsettled && s.crowded) ⇒ None
    ∣ s.held ⇒ Some (put_of s fill)
    ∣ s.full ⇒ evict_of s.by s.victim
    ∣ next_of_absent s fill

-- a read's piece in a page that isn't held, and has this block
abbrev pub next_of_load : PieceState → ℕ → Option Event
next_of_load s block =
    s.full ⇒ evict_of s.by s.victim
    ∣ Some (load_of s block)

-- the table of a read's pieces
abbrev pub next_of_get : PieceState → Option Event
next_of_get s =
    s.read_badly ⇒ Some (Ret s.by reply.ReadFault)
    ∣ s.loading ⇒ None
    ∣ s.held ⇒ Some (get_of s s.sum)
    ∣ elim s.block [ None ↦ Some (get_of s 0) | Some block ↦ next_of_load s block ]

-- ---- the client's table

-- what comes next in an admitted write or read whose file is there: its pieces by rising byte, then its return
abbrev pub next_of_write : ClientState → ℕ → Option Event
next_of_write c fill = elim c.piece [ None ↦ Some (Ret c.by reply.Done) | Some s ↦ next_of_put s fill ]

abbrev pub next_of_read : ClientState → Option Event
next_of_read c = elim c.piece [ None ↦ Some (Ret c.by (reply.Count c.moved c.got)) | Some s ↦ next_of_get s ]

-- no file reaches beyond this size: it has at most 1,008 pages
abbrev pub most_bytes : ℕ
most_bytes = 4128768

-- a write beyond the size of any file is refused
abbrev pub next_of_fitting : ClientState → ℕ → ℕ → Option Event
next_of_fitting c end fill =
    nat_lt most_bytes end ⇒ Some (Ret c.by reply.TooBig)
    ∣ next_of_write c fill

-- what comes next in an admitted fsync whose file is there: it waits for the data, and then for the file's metadata
abbrev pub next_of_fsync : ClientState → Option Event
next_of_fsync c =
    not c.acted ⇒ (if c.flushable then Some (Flushed c.by) else None)
    ∣ (if c.committed then Some (Ret c.by reply.Done) else None)

-- what comes next in an admitted call whose file is there
abbrev pub next_on_file : ClientState → Call → Serial → Option Event
next_on_file c (call.Write name off len fill) serial = next_of_fitting c (off + len) fill
next_on_file c (call.Read name off len) serial = next_of_read c
next_on_file c (call.Fsync name) serial = next_of_fsync c
next_on_file c (call.Unlink name) serial = Some (Drop c.by c.slot serial)
next_on_file c _ serial = None

-- what comes next in an admitted call that works on a file
abbrev pub next_of_bound : ClientState → Call → Option Event
next_of_bound c call =
    elim c.file [ None ↦ Some (Ret c.by reply.NoFile) | Some serial ↦ next_on_file c call serial ]

-- what comes next in an admitted creat that made no file: it makes one where its name and a slot are free
abbrev pub make_in : ClientState → Option ℕ → Option Event
make_in c None = Some (Ret c.by reply.NoSlot)
make_in c (Some slot) = Some (Make c.by (record { 0 = slot }) c.new_serial)

abbrev pub next_of_creat : ClientState → Option Event
next_of_creat c =
    c.acted ⇒ Some (Ret c.by reply.Done)
    ∣ c.name_taken ⇒ Some (Ret c.by reply.Exists)
    ∣ make_in c c.free_slot

-- what comes next in an admitted unlink: it drops its file
abbrev pub next_of_unlink : ClientState → Call → Option Event
next_of_unlink c call =
    c.acted ⇒ Some (Ret c.by reply.Done)
    ∣ next_of_bound c call

-- what comes next in an admitted call
abbrev pub next_of_admitted : ClientState → Call → Option Event
next_of_admitted c (call.Creat name) = next_of_creat c
next_of_admitted c (call.Unlink name) = next_of_unlink c (call.Unlink name)
next_of_admitted c call = next_of_bound c call

abbrev pub next_of_call : ClientState → Call → Option Event
next_of_call c call =
    not c.entered ⇒ Some (Enter c.by c.number)
    ∣ not c.admitted ⇒ (if c.may_admit then Some (Admit c.by) else None)
    ∣ next_of_admitted c call

abbrev pub next_of_client : ClientState → Option Event
next_of_client c = elim c.call [ None ↦ None | Some call ↦ next_of_call c call ]
