-- Only proofs need this: which row of which table an event came from, and what is known there.
use Rattle.std.specs.Prelude.{◌≡◌, ℕ, ◌+◌, ◌<◌, ◌≤◌, List, length, slice_get, Bool, true, false, not, ◌||◌, is_none, Option, Some, None, IsTrue, IsFalse}
use Rattle.split_types.specs.declared.ids.Pid.{Pid}
use Rattle.split_types.specs.declared.ids.Serial.{Serial}
use Rattle.split_types.specs.declared.ids.Txn.{Txn}
use Rattle.split_types.specs.declared.buf.Buf.{Buf}
use Rattle.split_types.specs.declared.buf.Buf.TheVariants.{Page}
use Rattle.split_types.specs.declared.call.Call.{Call}
use Rattle.split_types.specs.declared.call.Call.TheVariants.{Creat, Write, Read, Fsync, Unlink}
use Rattle.split_types.specs.declared.call.Reply.TheVariants as reply
use Rattle.split_types.specs.declared.actor.Actor.TheVariants.{Client, Wb, Cm}
use Rattle.split_types.specs.declared.request.Service.TheVariants.{Serving}
use Rattle.split_types.specs.declared.request.ReqKind.{ReqKind}
use Rattle.split_types.specs.declared.request.ReqKind.TheVariants as kind
use Rattle.split_types.specs.declared.request.Request.{Request}
use Rattle.split_types.specs.declared.request.Run.{Run}
use Rattle.split_types.specs.declared.workload.Workload.{Workload}
use Rattle.split_types.specs.declared.event.Event.{Event}
use Rattle.split_types.specs.declared.event.Event.TheVariants.{Enter, Admit, Make, Put, Get, Drop, Flushed, Ret, Serve, Skip, Seal, Add, Done, Evict}
use Rattle.split_types.specs.History.{adds}
use Rattle.split_types.specs.Requests.{in_flight}
use Rattle.split_types.specs.Calls.{returned, is_entered, is_admitted, has_acted, moved, call_of}
use Rattle.split_types.specs.Rounds.{last_txn, next_txn, slot_of_txn}
use Rattle.split_types.specs.Parents.{home_block}
use Rattle.split_types.specs.Transactions.{journal_slots, descriptor_at, commit_at, in_journal, oldest_in, marked_buffers, next_home, under_way, stage}
use Rattle.split_types.specs.Transactions.Stage.{Fresh, Sealed, Logging, Committing, Homing, Clearing}
use Rattle.split_types.specs.Files.{is_live, is_name_taken, bound_file}
use Rattle.split_types.specs.Schedulers.{admits, pick}
use Rattle.split_types.specs.Reads.{is_loading, is_read_badly}
use Rattle.split_types.specs.HeldPages.{is_held, is_full, is_unsettled, is_crowded}
use Rattle.split_types.specs.Victims.{victim}
use Rattle.split_types.specs.FileSizes.{disk_size_of, working_file}
use Rattle.split_types.specs.FileMaps.{mapped_block, is_without_space, is_in_mapped_run}
use Rattle.split_types.specs.LiveFiles.{free_slot}
use Rattle.split_types.specs.FileSlots.{live_files, next_serial, slot_of}
use Rattle.split_types.specs.ServedRuns.{FreeRun, run_to_serve, free_run}
use Rattle.split_types.specs.PageBytes.{sum_of_bytes}
use Rattle.split_types.specs.Pieces.{Piece, is_whole, piece_left, got}
use Rattle.split_types.specs.Clients.{most_bytes}
use Rattle.split_types.specs.Writeback.{service, served_run}
use Rattle.split_types.specs.Serving.{service_state, bytes_up_to, map_of, request_for}
use Rattle.split_types.specs.Syncing.{admit_place, is_written, awaited_txn, is_safe}
use Rattle.split_types.specs.Committing.{commit_state, goes_home, is_map_waiting}
use Rattle.split_types.specs.Next.{send_of}

-- p is a process of the workload, and this is its call under way, or its next call
pub record HasCall (w : Workload) (h : List Event) (p : Pid) (c : Call) : Type 0 where
  pub first : 1 ≤ p.0
  pub last : p.0 ≤ length w.procs
  pub call : call_of w h p.0 ≡ Some c

-- p has an admitted call under way
pub record IsAdmitted (w : Workload) (h : List Event) (p : Pid) (c : Call) : Type 0 where
  pub has : HasCall w h p c
  pub entered : IsTrue (is_entered h p.0)
  pub admitted : IsTrue (is_admitted h p.0)

-- it works on this file, which is there
pub record IsWorking (w : Workload) (h : List Event) (p : Pid) (c : Call) (serial : Serial) : Type 0 where
  pub admitted : IsAdmitted w h p c
  pub file : working_file w h p.0 ≡ Some serial

-- a write ends within the size that a file may have
abbrev pub IsFitting : Call → Type 0
IsFitting (Write name off len fill) = off + len ≤ most_bytes
IsFitting _ = Unit {0}

-- a call that makes a file or drops one
abbrev pub IsOfNames : Call → Type 0
IsOfNames (Creat name) = Unit {0}
IsOfNames (Unlink name) = Unit {0}
IsOfNames _ = ⊥

-- this piece is the first that is left of it; its page isn't loading, and no read of it that the call added was done
-- badly
pub record IsAtPiece (w : Workload) (h : List Event) (p : Pid) (c : Call) (serial : Serial) (piece : Piece) : Type 0
  where
    pub working : IsWorking w h p c serial
    pub fits : IsFitting c
    pub left : piece_left w h p.0 ≡ Some piece
    pub well : IsFalse (is_read_badly h p.0 (Page serial piece.page))
    pub there : IsFalse (is_loading w h (Page serial piece.page))

-- a write may put this piece: its page isn't in a run that is mapped and not added, and has a block or gets the promise
-- of one; the page is dirty or busy, or the stack isn't crowded; the page is held, or a place is free, and the piece is
-- a whole page or its page has no block
pub record MayPut (w : Workload) (h : List Event) (b : Buf) (piece : Piece) (block : Option ℕ) : Type 0 where
  pub out : IsFalse (is_in_mapped_run h b)
  pub space : IsFalse (is_without_space w h b)
  pub settles : IsTrue (is_unsettled w h b || not (is_crowded w h))
  pub room : IsTrue (is_held w h b || not (is_full w h))
  pub known : IsTrue (is_held w h b || (is_whole piece || is_none block))

-- the page isn't held; the cache is full, or it isn't
pub record IsAbsent (w : Workload) (h : List Event) (b : Buf) (at_bound : Bool) : Type 0 where
  pub absent : IsFalse (is_held w h b)
  pub full : is_full w h ≡ at_bound

-- the request for which a call reads a page from its block
abbrev pub read_request : ℕ → Pid → Serial → ℕ → ℕ → Request
read_request id p serial page block = record {
  id = record { 0 = id };
  kind = kind.Read p serial page;
  first = block;
  n = 1;
}

-- ---- the commit thread

-- the request of the journal for n blocks from this one on; id is the number of requests before it
abbrev pub journal_request : ℕ → ReqKind → ℕ → ℕ → Request
journal_request id kind first n = record { id = record { 0 = id }; kind = kind; first = first; n = n }

-- nothing that the commit thread began is left to be done: it began nothing; the commit request that it added last is done;
-- or so is the last home or clear request, and no transaction is in the journal
pub data IsIdle (h : List Event) : Type 0 where
  idle_fresh : stage h ≡ Fresh → IsIdle h
  idle_committed : (t : Txn) → stage h ≡ Committing t → under_way h ≡ 0 → IsIdle h
  idle_homed : (t : Txn) → stage h ≡ Homing t → next_home h ≡ None → under_way h ≡ 0
      → oldest_in (in_journal h) ≡ None → IsIdle h
  idle_cleared : (t : Txn) → stage h ≡ Clearing t → under_way h ≡ 0 → oldest_in (in_journal h) ≡ None → IsIdle h

-- all that is marked may be sealed
pub record MaySeal (w : Workload) (h : List Event) : Type 0 where
  pub idle : IsIdle h
  pub stays : IsFalse (goes_home (commit_state w h))
  pub left : length (in_journal h) < journal_slots w
  pub some : 1 ≤ length (marked_buffers h)
  pub out : IsFalse (is_map_waiting (service h))

-- the log of a transaction comes after its seal
pub record IsLogOf (h : List Event) (t : Txn) (first n : ℕ) : Type 0 where
  pub buffers : ℕ
  pub before : stage h ≡ Sealed t buffers
  pub place : first ≡ descriptor_at (slot_of_txn h (last_txn h))
  pub long : n ≡ buffers + 1

-- its commit request comes once the log is done
pub record IsCommitOf (h : List Event) (t : Txn) (first n : ℕ) : Type 0 where
  pub before : stage h ≡ Logging t
  pub done : under_way h ≡ 0
  pub place : first ≡ commit_at (slot_of_txn h (last_txn h))
  pub long : n ≡ 1

-- the home requests begin when the commit thread is idle and the round goes home, and go on
pub data MayGoHome (w : Workload) (h : List Event) : Type 0 where
  home_first : IsIdle h → IsTrue (goes_home (commit_state w h)) → MayGoHome w h
  home_next : (t : Txn) → stage h ≡ Homing t → MayGoHome w h

pub record IsHomeOf (w : Workload) (h : List Event) (t : Txn) (first n : ℕ) : Type 0 where
  pub before : MayGoHome w h
  pub buffer : Buf
  pub awaits : next_home h ≡ Some buffer
  pub last : t ≡ last_txn h
  pub place : first ≡ home_block buffer
  pub long : n ≡ 1

-- the clear requests begin when all buffers are home, and go on when the one before is done
pub data MayClear (h : List Event) : Type 0 where
  clear_first : (t : Txn) → stage h ≡ Homing t → next_home h ≡ None → under_way h ≡ 0 → MayClear h
  clear_next : (t : Txn) → stage h ≡ Clearing t → under_way h ≡ 0 → MayClear h

pub record IsClearOf (h : List Event) (t : Txn) (first n : ℕ) : Type 0 where
  pub before : MayClear h
  pub oldest : oldest_in (in_journal h) ≡ Some t
  pub place : first ≡ commit_at (slot_of_txn h t)
  pub long : n ≡ 1

-- a request of this kind for n blocks from this one on comes next in the journal; none that reads or writes pages does
abbrev pub Journals : Workload → List Event → ReqKind → ℕ → ℕ → Type 0
Journals w h (kind.Log t) first n = IsLogOf h t first n
Journals w h (kind.Commit t) first n = IsCommitOf h t first n
Journals w h (kind.Home t) first n = IsHomeOf w h t first n
Journals w h (kind.Clear t) first n = IsClearOf h t first n
Journals w h _ first n = ⊥

-- ---- all rows

-- the event comes next after h, by one of the rows
pub data Came (w : Workload) (h : List Event) : Event → Type 0 where
  came_enter : (p : Pid) (c : Call) → HasCall w h p c → IsFalse (is_entered h p.0) → Came w h (Enter p (returned h p.0))
  came_admit : (p : Pid) (c : Call) → HasCall w h p c → IsTrue (is_entered h p.0) → IsFalse (is_admitted h p.0)
      → IsTrue (admits w h p.0) → Came w h (Admit p)
  came_changed : (p : Pid) (c : Call) → IsAdmitted w h p c → IsOfNames c → IsTrue (has_acted h p.0)
      → Came w h (Ret p reply.Done)
  came_exists : (p : Pid) (name : List ℕ) → IsAdmitted w h p (Creat name) → IsFalse (has_acted h p.0)
      → IsTrue (is_name_taken w h (call_of w h p.0)) → Came w h (Ret p reply.Exists)
  came_no_slot : (p : Pid) (name : List ℕ) → IsAdmitted w h p (Creat name) → IsFalse (has_acted h p.0)
      → IsFalse (is_name_taken w h (call_of w h p.0)) → free_slot (live_files w h) ≡ None
      → Came w h (Ret p reply.NoSlot)
  came_make : (p : Pid) (name : List ℕ) (slot : ℕ) → IsAdmitted w h p (Creat name) → IsFalse (has_acted h p.0)
      → IsFalse (is_name_taken w h (call_of w h p.0)) → free_slot (live_files w h) ≡ Some slot
      → Came w h (Make p (record { 0 = slot }) (next_serial w h))
  came_drop : (p : Pid) (name : List ℕ) (serial : Serial) → IsWorking w h p (Unlink name) serial
      → IsFalse (has_acted h p.0) → Came w h (Drop p (slot_of w h serial) serial)
  came_no_file : (p : Pid) (c : Call) → IsAdmitted w h p c → working_file w h p.0 ≡ None
      → Came w h (Ret p reply.NoFile)
  came_too_big : (p : Pid) (name : List ℕ) (off len fill : ℕ) (serial : Serial)
      → IsWorking w h p (Write name off len fill) serial → most_bytes < off + len → Came w h (Ret p reply.TooBig)
  came_wrote : (p : Pid) (name : List ℕ) (off len fill : ℕ) (serial : Serial)
      → IsWorking w h p (Write name off len fill) serial → piece_left w h p.0 ≡ None → Came w h (Ret p reply.Done)
  came_read : (p : Pid) (name : List ℕ) (off len : ℕ) (serial : Serial) → IsWorking w h p (Read name off len) serial
      → piece_left w h p.0 ≡ None → Came w h (Ret p (reply.Count (moved h p.0) (got h p.0)))
  came_fault : (p : Pid) (c : Call) (serial : Serial) (piece : Piece) → IsWorking w h p c serial
      → piece_left w h p.0 ≡ Some piece → IsTrue (is_read_badly h p.0 (Page serial piece.page))
      → Came w h (Ret p reply.ReadFault)
  came_no_space : (p : Pid) (name : List ℕ) (off len fill : ℕ) (serial : Serial) (piece : Piece)
      → IsAtPiece w h p (Write name off len fill) serial piece
      → IsFalse (is_in_mapped_run h (Page serial piece.page))
      → IsTrue (is_without_space w h (Page serial piece.page))
      → Came w h (Ret p (reply.NoSpace (moved h p.0)))
  came_put : (p : Pid) (name : List ℕ) (off len fill : ℕ) (serial : Serial) (piece : Piece)
      → IsAtPiece w h p (Write name off len fill) serial piece
      → MayPut w h (Page serial piece.page) piece (mapped_block w h serial.0 piece.page)
      → Came w h (Put p serial piece.page piece.from piece.to fill)
  came_get : (p : Pid) (name : List ℕ) (off len : ℕ) (serial : Serial) (piece : Piece)
      → IsAtPiece w h p (Read name off len) serial piece → IsTrue (is_held w h (Page serial piece.page))
      → Came w h (Get p serial piece.page piece.from piece.to
      (sum_of_bytes w h serial piece.page piece.from piece.to))
  came_zeros : (p : Pid) (name : List ℕ) (off len : ℕ) (serial : Serial) (piece : Piece)
      → IsAtPiece w h p (Read name off len) serial piece → IsFalse (is_held w h (Page serial piece.page))
      → mapped_block w h serial.0 piece.page ≡ None → Came w h (Get p serial piece.page piece.from piece.to 0)
  came_evict : (p : Pid) (c : Call) (serial : Serial) (piece : Piece) → IsAtPiece w h p c serial piece
      → IsAbsent w h (Page serial piece.page) true → (s : Serial) (g : ℕ) → victim w h ≡ Some (Page s g)
      → Came w h (Evict p s g)
  came_load : (p : Pid) (c : Call) (serial : Serial) (piece : Piece) → IsAtPiece w h p c serial piece
      → IsAbsent w h (Page serial piece.page) false → (block : ℕ)
      → mapped_block w h serial.0 piece.page ≡ Some block
      → Came w h (Add (Client p) (read_request (adds h) p serial piece.page block))
  came_flushed : (p : Pid) (name : List ℕ) (serial : Serial) → IsWorking w h p (Fsync name) serial
      → IsFalse (has_acted h p.0) → IsTrue (is_written h (bound_file w h p.0) (admit_place h p.0))
      → Came w h (Flushed p)
  came_synced : (p : Pid) (name : List ℕ) (serial : Serial) → IsWorking w h p (Fsync name) serial
      → IsTrue (has_acted h p.0) → IsTrue (is_safe h (awaited_txn w h p.0)) → Came w h (Ret p reply.Done)
  came_serve : (run : Run) → served_run (service h) ≡ None → run_to_serve w h ≡ Some run
      → Came w h (Serve run.serial run.page run.n)
  came_skip : (run : Run) → served_run (service h) ≡ Some run → IsFalse (is_live w h run.serial.0) → Came w h Skip
  came_map : (run : Run) (free : FreeRun) → service h ≡ Serving run → IsTrue (is_live w h run.serial.0)
      → mapped_block w h run.serial.0 run.page ≡ None → free_run w h run.n ≡ Some free
      → Came w h (map_of (service_state w h run) free.n free.first true)
  came_grow : (run : Run) (block : ℕ) → service h ≡ Serving run → IsTrue (is_live w h run.serial.0)
      → mapped_block w h run.serial.0 run.page ≡ Some block
      → disk_size_of w h run.serial.0 < bytes_up_to (service_state w h run) run.n
      → Came w h (map_of (service_state w h run) run.n block false)
  came_add : (run : Run) (block : ℕ) → served_run (service h) ≡ Some run → IsTrue (is_live w h run.serial.0)
      → mapped_block w h run.serial.0 run.page ≡ Some block
      → (service h ≡ Serving run → bytes_up_to (service_state w h run) run.n ≤ disk_size_of w h run.serial.0)
      → Came w h (Add Wb (request_for (adds h) run block))
  came_seal : MaySeal w h → Came w h (Seal (next_txn h) (length (marked_buffers h)))
  came_journal : (kind : ReqKind) (first n : ℕ) → Journals w h kind first n
      → Came w h (Add Cm (journal_request (adds h) kind first n))
  came_send : (r : Request) → length (in_flight h) < w.depth → pick w h ≡ Some r → Came w h (send_of h r)
  came_done : (k : ℕ) (r : Request) → slice_get (in_flight h) k ≡ Some r → Came w h (Done k r.id true)
