-- Every next event comes from one of the rows, and is made by the actor that was asked.
use Rattle.std.proofs.Common.{◌≡◌, ℕ, ◌+◌, ◌≤◌, List, length, slice_get, Bool, true, false, not, ◌&&◌, ◌||◌, Option, Some, None, refl, arith, subst, ap, option_map, nat_lt, nat_le, if◌then◌else◌}
use Rattle.std.specs.Prelude.{is_none, IsTrue, IsFalse}
use Rattle.std.proofs.lemmas.Bool.{not-true, not-false, or_left, or_right, not_from_false}
use Rattle.std.proofs.lemmas.Bool.Decides.{nat_tests}
use Rattle.std.proofs.lemmas.Option.{same_Some}
use Rattle.split_types.specs.declared.ids.Pid.{Pid}
use Rattle.split_types.specs.declared.ids.Serial.{Serial}
use Rattle.split_types.specs.declared.ids.Txn.{Txn}
use Rattle.split_types.specs.declared.buf.Buf.{Buf}
use Rattle.split_types.specs.declared.buf.Buf.TheVariants.{Page}
use Rattle.split_types.specs.declared.call.Call.{Call}
use Rattle.split_types.specs.declared.call.Call.TheVariants.{Creat, Write, Read, Fsync, Unlink}
use Rattle.split_types.specs.declared.call.Reply.TheVariants as reply
use Rattle.split_types.specs.declared.actor.Actor.{Actor}
use Rattle.split_types.specs.declared.actor.Actor.TheVariants.{Client, Wb, Cm, Dq, Dn, Tk}
use Rattle.split_types.specs.declared.request.ReqKind.{ReqKind}
use Rattle.split_types.specs.declared.request.ReqKind.TheVariants as kind
use Rattle.split_types.specs.declared.request.Run.{Run}
use Rattle.split_types.specs.declared.request.Service.{Service}
use Rattle.split_types.specs.declared.request.Service.TheVariants.{Idle, Serving, Mapped}
use Rattle.split_types.specs.declared.workload.Workload.{Workload}
use Rattle.split_types.specs.declared.event.Event.{Event}
use Rattle.split_types.specs.declared.event.Event.TheVariants.{Enter, Admit, Make, Put, Get, Drop, Flushed, Ret, Serve, Skip, Seal, Add, Done, Evict}
use Rattle.split_types.specs.Rows.{◌⇒◌∣◌}
use Rattle.split_types.specs.History.{adds}
use Rattle.split_types.specs.Hooks.{maker}
use Rattle.split_types.specs.Requests.{in_flight}
use Rattle.split_types.specs.Rounds.{last_txn, next_txn, slot_of_txn}
use Rattle.split_types.specs.Parents.{home_block}
use Rattle.split_types.specs.Transactions.{journal_slots, descriptor_at, commit_at, in_journal, oldest_in, marked_buffers, next_home, under_way, stage, Stage}
use Rattle.split_types.specs.Transactions.Stage.{Fresh, Sealed, Logging, Committing, Homing, Clearing}
use Rattle.split_types.specs.Files.{is_live, is_name_taken, bound_file}
use Rattle.split_types.specs.Calls.{returned, is_entered, is_admitted, has_acted, moved, call_of}
use Rattle.split_types.specs.Schedulers.{admits, pick}
use Rattle.split_types.specs.Reads.{is_loading, is_read_badly}
use Rattle.split_types.specs.HeldPages.{is_held, is_full, is_unsettled, is_crowded}
use Rattle.split_types.specs.Victims.{victim}
use Rattle.split_types.specs.FileSizes.{disk_size_of, working_file}
use Rattle.split_types.specs.FileMaps.{mapped_block, is_without_space, is_in_mapped_run}
use Rattle.split_types.specs.LiveFiles.{free_slot}
use Rattle.split_types.specs.FileSlots.{live_files, next_serial, slot_of, slot_of_some}
use Rattle.split_types.specs.ServedRuns.{run_to_serve, free_run}
use Rattle.split_types.specs.PageBytes.{sum_of_bytes}
use Rattle.split_types.specs.Pieces.{Piece, is_whole, piece_left, got}
use Rattle.split_types.specs.Clients.{piece_state, client_state, state_left, most_bytes, evict_of, next_of_absent, next_of_put, next_of_load, next_of_get, next_of_write, next_on_file, make_in, next_of_bound, next_of_creat, next_of_admitted, next_of_call, next_of_client}
use Rattle.split_types.specs.Writeback.{service, served_run}
use Rattle.split_types.specs.Serving.{service_state, bytes_up_to, map_of, request_for, next_of_placed, next_of_serving, next_of_mapped, next_in_service}
use Rattle.split_types.specs.Syncing.{admit_place, is_written, awaited_txn, is_safe}
use Rattle.split_types.specs.Committing.{commit_state, is_map_waiting, slot_of_some_txn, goes_home, add_commit, add_home, add_clear, next_of_idle, next_of_sealing, next_of_clearing, next_of_homing, next_of_stage}
use Rattle.split_types.specs.Next.{send_of, next}
use Rattle.split_types.specs.Proving.Came.{Came, HasCall, IsAdmitted, IsWorking, IsOfNames, IsAtPiece, IsAbsent, IsIdle, MayGoHome, MayClear, Journals, read_request, journal_request}
use Rattle.split_types.specs.Proving.Came.IsIdle.{idle_fresh, idle_committed, idle_homed, idle_cleared}
use Rattle.split_types.specs.Proving.Came.MayGoHome.{home_first, home_next}
use Rattle.split_types.specs.Proving.Came.MayClear.{clear_first, clear_next}
use Rattle.split_types.specs.Proving.Came.Came.{came_enter, came_admit, came_changed, came_exists, came_no_slot, came_make, came_drop, came_no_file, came_too_big}
use Rattle.split_types.specs.Proving.Came.Came.{came_wrote, came_read, came_fault, came_no_space, came_put, came_get, came_zeros, came_evict, came_load}
use Rattle.split_types.specs.Proving.Came.Came.{came_flushed, came_synced, came_serve, came_skip, came_map, came_grow, came_add, came_seal, came_journal, came_send, came_done}

-- a row decides, or the rows below it do
pub by_row : {A C : Type 0} (b : Bool) (x y e : A) → (b ⇒ x ∣ y) ≡ e → (b ≡ true → x ≡ e → C)
    → (b ≡ false → y ≡ e → C) → C
by_row true x y e h here below = here refl h
by_row false x y e h here below = below refl h

-- an option that is some
pub by_some : {A B C : Type 0} (o : Option A) (f : A → Option B) (e : B)
    → (elim o [ None ↦ None | Some a ↦ f a ]) ≡ Some e → ((a : A) → o ≡ Some a → f a ≡ Some e → C) → C
by_some None f e h go = absurd (cc)
by_some (Some a) f e h go = go a refl h

-- an event that comes where a test holds
pub by_test : {C : Type 0} (b : Bool) (d e : Event) → (if b then Some d else None) ≡ Some e
    → (b ≡ true → Some d ≡ Some e → C) → C
by_test true d e is go = go refl is
by_test false d e is go = absurd (cc)

-- the event comes from a row, and this actor makes it
pub record Comes (w : Workload) (h : List Event) (a : Actor) (e : Event) : Type 0 where
  pub row : Came w h e
  pub made : maker e ≡ a

comes : (w : Workload) (h : List Event) (a : Actor) (d e : Event) → Came w h d → maker d ≡ a → Some d ≡ Some e
    → Comes w h a e
comes w h a d e row made is = subst (Comes w h a) (same_Some d e is) (record { row = row; made = made })

-- ---- pieces
-- of a page that isn't held, where the cache is full
in_evict : (w : Workload) (h : List Event) (p : Pid) (c : Call) (serial : Serial) (piece : Piece) (e : Event)
    → IsAtPiece w h p c serial piece → IsAbsent w h (Page serial piece.page) true → (v : Option Buf) → victim w h ≡ v
    → evict_of p v ≡ Some e → Comes w h (Client p) e
in_evict w h p c serial piece e here absent (Some (Page s g)) at is =
    comes w h (Client p) (Evict p s g) e (came_evict p c serial piece here absent s g at) refl is
in_evict w h p c serial piece e here absent v at is = absurd (cc)

in_load : (w : Workload) (h : List Event) (p : Pid) (c : Call) (serial : Serial) (piece : Piece) (e : Event)
    → IsAtPiece w h p c serial piece → IsAbsent w h (Page serial piece.page) false → (block : ℕ)
    → mapped_block w h serial.0 piece.page ≡ Some block
    → Some (Add (Client p) (read_request (adds h) p serial piece.page block)) ≡ Some e → Comes w h (Client p) e
in_load w h p c serial piece e here absent block at is =
    comes w h (Client p) (Add (Client p) (read_request (adds h) p serial piece.page block)) e
    (came_load p c serial piece here absent block at) refl is

calm : (u c : Bool) → (not u && c) ≡ false → (u || not c) ≡ true
calm true c is = refl
calm false true is = absurd (cc)
calm false false is = refl

-- of a write, in a page that isn't held, where a place is free
in_absent : (w : Workload) (h : List Event) (p : Pid) (name : List ℕ) (off len fill : ℕ) (serial : Serial)
    (piece : Piece) (e : Event) → IsAtPiece w h p (Write name off len fill) serial piece
    → IsFalse (is_in_mapped_run h (Page serial piece.page)) → IsFalse (is_without_space w h (Page serial piece.page))
    → IsTrue (is_unsettled w h (Page serial piece.page) || not (is_crowded w h))
    → IsAbsent w h (Page serial piece.page) false
    → next_of_absent (piece_state w h p serial piece) fill ≡ Some e → Comes w h (Client p) e
in_absent w h p name off len fill serial piece e here out space settles absent n =
    by_row (is_whole piece) (Some (Put p serial piece.page piece.from piece.to fill)) _ (Some e) n
    (λ whole is. put (or_left _ _ whole) is)
    (λ part is. by_block (mapped_block w h serial.0 piece.page) refl is)
  where
    b : Buf
    b = Page serial piece.page

    put : IsTrue (is_whole piece || is_none (mapped_block w h serial.0 piece.page))
        → Some (Put p serial piece.page piece.from piece.to fill) ≡ Some e → Comes w h (Client p) e
    put known is =
        comes w h (Client p) (Put p serial piece.page piece.from piece.to fill) e
        (came_put p name off len fill serial piece here (record {
          out = out;
          space = space;
          settles = settles;
          room = or_right (is_held w h b) (not (is_full w h)) (not_from_false (is_full w h) absent.full);
          known = or_right (is_held w h b) _ known;
        })) refl is

    by_block : (o : Option ℕ) → mapped_block w h serial.0 piece.page ≡ o
        → (elim o [
          | None ↦ Some (Put p serial piece.page piece.from piece.to fill)
          | Some block ↦ Some (Add (Client p) (read_request (adds h) p serial piece.page block))
        ]) ≡ Some e
        → Comes w h (Client p) e
    by_block None at is = put (or_right (is_whole piece) _ (ap is_none at)) is
    by_block (Some block) at is =
        in_load w h p (Write name off len fill) serial piece e here absent block at is

in_put : (w : Workload) (h : List Event) (p : Pid) (name : List ℕ) (off len fill : ℕ) (serial : Serial)
    (piece : Piece) (e : Event) → IsWorking w h p (Write name off len fill) serial → off + len ≤ most_bytes
    → piece_left w h p.0 ≡ Some piece → next_of_put (piece_state w h p serial piece) fill ≡ Some e
    → Comes w h (Client p) e
in_put w h p name off len fill serial piece e working fits left n =
    by_row (is_read_badly h p.0 b) (Some (Ret p reply.ReadFault)) _ (Some e) n
    (λ bad is. comes w h (Client p) (Ret p reply.ReadFault) e
    (came_fault p (Write name off len fill) serial piece working left bad) refl is)
    (λ well rest. by_row (is_loading w h b) None _ (Some e) rest
    (λ loading is. absurd (cc))
    (λ there below. by_row (is_in_mapped_run h b) None _ (Some e) below
    (λ mapped is. absurd (cc))
    (λ out is. at_space (record { working = working; fits = fits; left = left; well = well; there = there }) out is)))
  where
    b : Buf
    b = Page serial piece.page

    at_page : IsAtPiece w h p (Write name off len fill) serial piece → IsFalse (is_in_mapped_run h b)
        → IsFalse (is_without_space w h b)
        → (not (is_unsettled w h b) && is_crowded w h ⇒ None
        ∣ is_held w h b ⇒ Some (Put p serial piece.page piece.from piece.to fill)
        ∣ is_full w h ⇒ evict_of p (victim w h)
        ∣ next_of_absent (piece_state w h p serial piece) fill) ≡ Some e
        → Comes w h (Client p) e
    at_page here out space next =
        by_row (not (is_unsettled w h b) && is_crowded w h) None _ (Some e) next
        (λ waits is. absurd (cc))
        (λ goes rest. by_row (is_held w h b) (Some (Put p serial piece.page piece.from piece.to fill)) _ (Some e) rest
        (λ held is. comes w h (Client p) (Put p serial piece.page piece.from piece.to fill) e
        (came_put p name off len fill serial piece here (record {
          out = out;
          space = space;
          settles = calm (is_unsettled w h b) (is_crowded w h) goes;
          room = or_left (is_held w h b) _ held;
          known = or_left (is_held w h b) _ held;
        })) refl is)
        (λ absent below. by_row (is_full w h) (evict_of p (victim w h)) _ (Some e) below
        (λ full is. in_evict w h p (Write name off len fill) serial piece e here
        (record { absent = absent; full = full }) (victim w h) refl is)
        (λ roomy is. in_absent w h p name off len fill serial piece e here out space
        (calm (is_unsettled w h b) (is_crowded w h) goes) (record { absent = absent; full = roomy }) is)))

    at_space : IsAtPiece w h p (Write name off len fill) serial piece → IsFalse (is_in_mapped_run h b)
        → (is_without_space w h b ⇒ Some (Ret p (reply.NoSpace (moved h p.0)))
        ∣ not (is_unsettled w h b) && is_crowded w h ⇒ None
        ∣ is_held w h b ⇒ Some (Put p serial piece.page piece.from piece.to fill)
        ∣ is_full w h ⇒ evict_of p (victim w h)
        ∣ next_of_absent (piece_state w h p serial piece) fill) ≡ Some e
        → Comes w h (Client p) e
    at_space here out next =
        by_row (is_without_space w h b) (Some (Ret p (reply.NoSpace (moved h p.0)))) _ (Some e) next
        (λ none is. comes w h (Client p) (Ret p (reply.NoSpace (moved h p.0))) e
        (came_no_space p name off len fill serial piece here out none) refl is)
        (λ space rest. at_page here out space rest)

in_get : (w : Workload) (h : List Event) (p : Pid) (name : List ℕ) (off len : ℕ) (serial : Serial) (piece : Piece)
    (e : Event) → IsWorking w h p (Read name off len) serial → piece_left w h p.0 ≡ Some piece
    → next_of_get (piece_state w h p serial piece) ≡ Some e → Comes w h (Client p) e
in_get w h p name off len serial piece e working left n =
    by_row (is_read_badly h p.0 b) (Some (Ret p reply.ReadFault)) _ (Some e) n
    (λ bad is. comes w h (Client p) (Ret p reply.ReadFault) e
    (came_fault p (Read name off len) serial piece working left bad) refl is)
    (λ well rest. by_row (is_loading w h b) None _ (Some e) rest
    (λ loading is. absurd (cc))
    (λ there is. at_page (record { working = working; fits = tt; left = left; well = well; there = there }) is))
  where
    b : Buf
    b = Page serial piece.page

    got_sum : ℕ
    got_sum = sum_of_bytes w h serial piece.page piece.from piece.to

    by_block : IsAtPiece w h p (Read name off len) serial piece → IsFalse (is_held w h b) → (o : Option ℕ)
        → mapped_block w h serial.0 piece.page ≡ o
        → (elim o [
          | None ↦ Some (Get p serial piece.page piece.from piece.to 0)
          | Some block ↦ next_of_load (piece_state w h p serial piece) block
        ]) ≡ Some e
        → Comes w h (Client p) e
    by_block here absent None at is =
        comes w h (Client p) (Get p serial piece.page piece.from piece.to 0) e
        (came_zeros p name off len serial piece here absent at) refl is
    by_block here absent (Some block) at next =
        by_row (is_full w h) (evict_of p (victim w h)) _ (Some e) next
        (λ full is. in_evict w h p (Read name off len) serial piece e here
        (record { absent = absent; full = full }) (victim w h) refl is)
        (λ roomy is. in_load w h p (Read name off len) serial piece e here
        (record { absent = absent; full = roomy }) block at is)

    at_page : IsAtPiece w h p (Read name off len) serial piece
        → (is_held w h b ⇒ Some (Get p serial piece.page piece.from piece.to got_sum)
        ∣ elim (mapped_block w h serial.0 piece.page) [
          | None ↦ Some (Get p serial piece.page piece.from piece.to 0)
          | Some block ↦ next_of_load (piece_state w h p serial piece) block
        ]) ≡ Some e
        → Comes w h (Client p) e
    at_page here next =
        by_row (is_held w h b) (Some (Get p serial piece.page piece.from piece.to got_sum)) _ (Some e) next
        (λ held is. comes w h (Client p) (Get p serial piece.page piece.from piece.to got_sum) e
        (came_get p name off len serial piece here held) refl is)
        (λ absent is. by_block here absent (mapped_block w h serial.0 piece.page) refl is)

-- ---- calls
in_write : (w : Workload) (h : List Event) (p : Pid) (name : List ℕ) (off len fill : ℕ) (serial : Serial) (e : Event)
    → IsWorking w h p (Write name off len fill) serial → off + len ≤ most_bytes → (o : Option Piece)
    → piece_left w h p.0 ≡ o
    → (elim (option_map (piece_state w h p serial) o) [
      | None ↦ Some (Ret p reply.Done)
      | Some s ↦ next_of_put s fill
    ]) ≡ Some e
    → Comes w h (Client p) e
in_write w h p name off len fill serial e working fits None left is =
    comes w h (Client p) (Ret p reply.Done) e (came_wrote p name off len fill serial working left) refl is
in_write w h p name off len fill serial e working fits (Some piece) left is =
    in_put w h p name off len fill serial piece e working fits left is

in_read : (w : Workload) (h : List Event) (p : Pid) (name : List ℕ) (off len : ℕ) (serial : Serial) (e : Event)
    → IsWorking w h p (Read name off len) serial → (o : Option Piece) → piece_left w h p.0 ≡ o
    → (elim (option_map (piece_state w h p serial) o) [
      | None ↦ Some (Ret p (reply.Count (moved h p.0) (got h p.0)))
      | Some s ↦ next_of_get s
    ]) ≡ Some e
    → Comes w h (Client p) e
in_read w h p name off len serial e working None left is =
    comes w h (Client p) (Ret p (reply.Count (moved h p.0) (got h p.0))) e
    (came_read p name off len serial working left) refl is
in_read w h p name off len serial e working (Some piece) left is =
    in_get w h p name off len serial piece e working left is

on_file : (w : Workload) (h : List Event) (p : Pid) (c : Call) (serial : Serial) (e : Event)
    → IsWorking w h p c serial → (IsOfNames c → IsFalse (has_acted h p.0))
    → next_on_file (client_state w h p) c serial ≡ Some e → Comes w h (Client p) e
on_file w h p (Write name off len fill) serial e working idle n =
    by_row (nat_lt most_bytes (off + len)) (Some (Ret p reply.TooBig)) (next_of_write (client_state w h p) fill)
    (Some e) n
    (λ big is. comes w h (Client p) (Ret p reply.TooBig) e
    (came_too_big p name off len fill serial working (grind (arith, nat_tests))) refl is)
    (λ fits is. in_write w h p name off len fill serial e working (grind (arith, nat_tests)) (piece_left w h p.0) refl
    (subst (λ o. (elim (state_left w h p o) [
      | None ↦ Some (Ret p reply.Done)
      | Some s ↦ next_of_put s fill
    ]) ≡ Some e) working.file is))
on_file w h p (Unlink name) serial e working idle n =
    comes w h (Client p) (Drop p (slot_of w h serial) serial) e (came_drop p name serial working (idle tt)) refl
    (subst (λ o. Some (Drop p (slot_of_some w h o) serial) ≡ Some e) working.file n)
on_file w h p (Read name off len) serial e working idle n =
    in_read w h p name off len serial e working (piece_left w h p.0) refl
    (subst (λ o. (elim (state_left w h p o) [
      | None ↦ Some (Ret p (reply.Count (moved h p.0) (got h p.0)))
      | Some s ↦ next_of_get s
    ]) ≡ Some e) working.file n)
on_file w h p (Fsync name) serial e working idle n =
    by_row (not (has_acted h p.0)) (if is_written h (bound_file w h p.0) (admit_place h p.0) then Some (Flushed p) else None)
    (if is_safe h (awaited_txn w h p.0) then Some (Ret p reply.Done) else None) (Some e) n
    (λ waits is. by_test (is_written h (bound_file w h p.0) (admit_place h p.0)) (Flushed p) e is
    (λ down same. comes w h (Client p) (Flushed p) e (came_flushed p name serial working (not-true _ waits) down) refl
    same))
    (λ flushed is. by_test (is_safe h (awaited_txn w h p.0)) (Ret p reply.Done) e is
    (λ safe same. comes w h (Client p) (Ret p reply.Done) e
    (came_synced p name serial working (not-false _ flushed) safe) refl same))
on_file w h p c serial e working idle n = absurd (cc)

in_bound : (w : Workload) (h : List Event) (p : Pid) (c : Call) (e : Event) → IsAdmitted w h p c
    → (IsOfNames c → IsFalse (has_acted h p.0)) → next_of_bound (client_state w h p) c ≡ Some e
    → Comes w h (Client p) e
in_bound w h p c e admitted idle n = by_file (working_file w h p.0) refl n
  where
    by_file : (o : Option Serial) → working_file w h p.0 ≡ o
        → (elim o [ None ↦ Some (Ret p reply.NoFile) | Some serial ↦ next_on_file (client_state w h p) c serial ])
        ≡ Some e
        → Comes w h (Client p) e
    by_file None file is =
        comes w h (Client p) (Ret p reply.NoFile) e (came_no_file p c admitted file) refl is
    by_file (Some serial) file is = on_file w h p c serial e (record { admitted = admitted; file = file }) idle is

in_creat : (w : Workload) (h : List Event) (p : Pid) (name : List ℕ) (e : Event) → IsAdmitted w h p (Creat name)
    → next_of_creat (client_state w h p) ≡ Some e → Comes w h (Client p) e
in_creat w h p name e admitted n =
    by_row (has_acted h p.0) (Some (Ret p reply.Done)) _ (Some e) n
    (λ acted is. comes w h (Client p) (Ret p reply.Done) e (came_changed p (Creat name) admitted tt acted) refl is)
    (λ idle rest. by_row (is_name_taken w h (call_of w h p.0)) (Some (Ret p reply.Exists)) _ (Some e) rest
    (λ taken is. comes w h (Client p) (Ret p reply.Exists) e (came_exists p name admitted idle taken) refl is)
    (λ unused is. by_slot idle unused (free_slot (live_files w h)) refl is))
  where
    by_slot : IsFalse (has_acted h p.0) → IsFalse (is_name_taken w h (call_of w h p.0)) → (o : Option ℕ)
        → free_slot (live_files w h) ≡ o → make_in (client_state w h p) o ≡ Some e → Comes w h (Client p) e
    by_slot idle unused None at is =
        comes w h (Client p) (Ret p reply.NoSlot) e (came_no_slot p name admitted idle unused at) refl is
    by_slot idle unused (Some slot) at is =
        comes w h (Client p) (Make p (record { 0 = slot }) (next_serial w h)) e
        (came_make p name slot admitted idle unused at) refl is

in_admitted : (w : Workload) (h : List Event) (p : Pid) (c : Call) (e : Event) → IsAdmitted w h p c
    → next_of_admitted (client_state w h p) c ≡ Some e → Comes w h (Client p) e
in_admitted w h p (Creat name) e admitted n = in_creat w h p name e admitted n
in_admitted w h p (Unlink name) e admitted n =
    by_row (has_acted h p.0) (Some (Ret p reply.Done)) (next_of_bound (client_state w h p) (Unlink name)) (Some e) n
    (λ acted is. comes w h (Client p) (Ret p reply.Done) e (came_changed p (Unlink name) admitted tt acted) refl is)
    (λ idle is. in_bound w h p (Unlink name) e admitted (λ names. idle) is)
in_admitted w h p (Write name off len fill) e admitted n =
    in_bound w h p (Write name off len fill) e admitted (λ names. absurd (names)) n
in_admitted w h p (Read name off len) e admitted n =
    in_bound w h p (Read name off len) e admitted (λ names. absurd (names)) n
in_admitted w h p (Fsync name) e admitted n = in_bound w h p (Fsync name) e admitted (λ names. absurd (names)) n

in_call : (w : Workload) (h : List Event) (p : Pid) (c : Call) (e : Event) → HasCall w h p c
    → next_of_call (client_state w h p) c ≡ Some e → Comes w h (Client p) e
in_call w h p c e has n =
    by_row (not (is_entered h p.0)) (Some (Enter p (returned h p.0)))
    (not (is_admitted h p.0) ⇒ (if admits w h p.0 then Some (Admit p) else None)
    ∣ next_of_admitted (client_state w h p) c)
    (Some e) n
    (λ out is. comes w h (Client p) (Enter p (returned h p.0)) e (came_enter p c has (not-true _ out)) refl is)
    (λ inside rest. by_row (not (is_admitted h p.0)) (if admits w h p.0 then Some (Admit p) else None)
    (next_of_admitted (client_state w h p) c) (Some e) rest
    (λ out is. by_test (admits w h p.0) (Admit p) e is
    (λ may same. comes w h (Client p) (Admit p) e (came_admit p c has (not-false _ inside) (not-true _ out) may) refl
    same))
    (λ admitted is. in_admitted w h p c e
    (record { has = has; entered = not-false _ inside; admitted = not-false _ admitted }) is))

by_client : (w : Workload) (h : List Event) (p : Pid) (e : Event) → next w h (Client p) ≡ Some e
    → Comes w h (Client p) e
by_client w h p e n =
    by_row (nat_le 1 p.0 && nat_le p.0 (length w.procs)) (next_of_client (client_state w h p)) None (Some e) n
    (λ test is. by_some (call_of w h p.0) (next_of_call (client_state w h p)) e is
    (λ c call at. in_call w h p c e (record {
      first = grind (arith, nat_tests);
      last = grind (arith, nat_tests);
      call = call;
    }) at))
    (λ test is. absurd (cc))

-- ---- the others
dropped : (w : Workload) (h : List Event) (run : Run) (rest : Option Event) (e : Event)
    → served_run (service h) ≡ Some run → (not (is_live w h run.serial.0) ⇒ Some Skip ∣ rest) ≡ Some e
    → (IsTrue (is_live w h run.serial.0) → rest ≡ Some e → Comes w h Wb e) → Comes w h Wb e
dropped w h run rest e served n go =
    by_row (not (is_live w h run.serial.0)) (Some Skip) rest (Some e) n
    (λ gone is. comes w h Wb Skip e (came_skip run served (not-true _ gone)) refl is)
    (λ there is. go (not-false _ there) is)

by_serving : (w : Workload) (h : List Event) (run : Run) (e : Event) → service h ≡ Serving run
    → IsTrue (is_live w h run.serial.0) → next_of_serving (service_state w h run) ≡ Some e → Comes w h Wb e
by_serving w h run e serves there n = by_block (mapped_block w h run.serial.0 run.page) refl n
  where
    by_block : (o : Option ℕ) → mapped_block w h run.serial.0 run.page ≡ o
        → (elim o [
          | None ↦ elim (free_run w h run.n) [
            | None ↦ None
            | Some f ↦ Some (map_of (service_state w h run) f.n f.first true)
          ]
          | Some block ↦ next_of_placed (service_state w h run) block
        ]) ≡ Some e
        → Comes w h Wb e
    by_block None at is =
        by_some (free_run w h run.n) (λ f. Some (map_of (service_state w h run) f.n f.first true)) e is
        (λ f free same. comes w h Wb (map_of (service_state w h run) f.n f.first true) e
        (came_map run f serves there at free) refl same)
    by_block (Some block) at is =
        by_row (nat_lt (disk_size_of w h run.serial.0) (bytes_up_to (service_state w h run) run.n))
        (Some (map_of (service_state w h run) run.n block false)) (Some (Add Wb (request_for (adds h) run block)))
        (Some e) is
        (λ short same. comes w h Wb (map_of (service_state w h run) run.n block false) e
        (came_grow run block serves there at (grind (arith, nat_tests))) refl same)
        (λ long same. comes w h Wb (Add Wb (request_for (adds h) run block)) e
        (came_add run block (ap served_run serves) there at (λ s. grind (arith, nat_tests))) refl same)

by_mapped : (w : Workload) (h : List Event) (run : Run) (e : Event) → service h ≡ Mapped run
    → IsTrue (is_live w h run.serial.0) → next_of_mapped (service_state w h run) ≡ Some e → Comes w h Wb e
by_mapped w h run e mapped there n =
    by_some (mapped_block w h run.serial.0 run.page) (λ block. Some (Add Wb (request_for (adds h) run block))) e n
    (λ block at same. comes w h Wb (Add Wb (request_for (adds h) run block)) e
    (came_add run block (ap served_run mapped) there at (λ serves. absurd (cc))) refl same)

by_writeback : (w : Workload) (h : List Event) (e : Event) → next w h Wb ≡ Some e → Comes w h Wb e
by_writeback w h e n = by_service (service h) refl n
  where
    by_service : (s : Service) → service h ≡ s → next_in_service w h s ≡ Some e → Comes w h Wb e
    by_service Idle at is =
        by_some (run_to_serve w h) (λ run. Some (Serve run.serial run.page run.n)) e is
        (λ run found same. comes w h Wb (Serve run.serial run.page run.n) e
        (came_serve run (ap served_run at) found) refl same)
    by_service (Serving run) at is =
        dropped w h run (next_of_serving (service_state w h run)) e (ap served_run at) is
        (λ there rest. by_serving w h run e at there rest)
    by_service (Mapped run) at is =
        dropped w h run (next_of_mapped (service_state w h run)) e (ap served_run at) is
        (λ there rest. by_mapped w h run e at there rest)

-- the commit thread
journals : (w : Workload) (h : List Event) (kind : ReqKind) (first n : ℕ) (e : Event) → Journals w h kind first n
    → Some (Add Cm (journal_request (adds h) kind first n)) ≡ Some e → Comes w h Cm e
journals w h kind first n e j is =
    comes w h Cm (Add Cm (journal_request (adds h) kind first n)) e (came_journal kind first n j) refl is

goes : (w : Workload) (h : List Event) (b : Buf) (e : Event) → MayGoHome w h → next_home h ≡ Some b
    → Some (Add Cm (journal_request (adds h) (kind.Home (last_txn h)) (home_block b) 1)) ≡ Some e → Comes w h Cm e
goes w h b e before at is =
    journals w h (kind.Home (last_txn h)) (home_block b) 1 e
    (record { before = before; buffer = b; awaits = at; last = refl; place = refl; long = refl }) is

in_idle : (w : Workload) (h : List Event) (e : Event) → IsIdle h → next_of_idle (commit_state w h) ≡ Some e
    → Comes w h Cm e
in_idle w h e idle n =
    by_row (goes_home (commit_state w h))
    (elim (next_home h) [ None ↦ None | Some b ↦ add_home (commit_state w h) b ])
    (next_of_sealing (commit_state w h)) (Some e) n
    (λ home is. by_some (next_home h) (add_home (commit_state w h)) e is
    (λ b at same. goes w h b e (home_first idle home) at same))
    (λ stays is. by_row
    (nat_lt (length (in_journal h)) (journal_slots w) && nat_lt 0 (length (marked_buffers h))
    && not (is_map_waiting (service h)))
    (Some (Seal (next_txn h) (length (marked_buffers h)))) None (Some e) is
    (λ test same. comes w h Cm (Seal (next_txn h) (length (marked_buffers h))) e (came_seal (record {
      idle = idle;
      stays = stays;
      left = grind (arith, nat_tests);
      some = grind (arith, nat_tests);
      out = grind (arith, nat_tests);
    })) refl same)
    (λ test same. absurd (cc)))

in_clearing : (w : Workload) (h : List Event) (e : Event) → MayClear h → (oldest_in (in_journal h) ≡ None → IsIdle h)
    → next_of_clearing (commit_state w h) ≡ Some e → Comes w h Cm e
in_clearing w h e before idle n = by_oldest (oldest_in (in_journal h)) refl n
  where
    by_oldest : (o : Option Txn) → oldest_in (in_journal h) ≡ o
        → (elim o [
          | None ↦ next_of_idle (commit_state w h)
          | Some t ↦ add_clear (commit_state w h) t
        ]) ≡ Some e
        → Comes w h Cm e
    by_oldest None at is = in_idle w h e (idle at) is
    by_oldest (Some t) at is =
        journals w h (kind.Clear t) (commit_at (slot_of_some_txn h (oldest_in (in_journal h)))) 1 e (record {
          before = before;
          oldest = at;
          place = ap (λ o. commit_at (slot_of_some_txn h o)) at;
          long = refl;
        }) is

in_homing : (w : Workload) (h : List Event) (t : Txn) (e : Event) → stage h ≡ Homing t
    → next_of_homing (commit_state w h) ≡ Some e → Comes w h Cm e
in_homing w h t e at n = by_home (next_home h) refl n
  where
    by_home : (o : Option Buf) → next_home h ≡ o
        → (elim o [
          | Some b ↦ add_home (commit_state w h) b
          | None ↦ (nat_lt 0 (under_way h) ⇒ None ∣ next_of_clearing (commit_state w h))
        ]) ≡ Some e
        → Comes w h Cm e
    by_home (Some b) home is = goes w h b e (home_next t at) home is
    by_home None home is =
        by_row (nat_lt 0 (under_way h)) None (next_of_clearing (commit_state w h)) (Some e) is
        (λ waits same. absurd (cc))
        (λ done same. in_clearing w h e (clear_first t at home (grind (arith, nat_tests)))
        (λ none. idle_homed t at home (grind (arith, nat_tests)) none) same)

by_commit : (w : Workload) (h : List Event) (e : Event) → next w h Cm ≡ Some e → Comes w h Cm e
by_commit w h e n = by_stage (stage h) refl n
  where
    by_stage : (s : Stage) → stage h ≡ s → next_of_stage (commit_state w h) s ≡ Some e → Comes w h Cm e
    by_stage Fresh at is = in_idle w h e (idle_fresh at) is
    by_stage (Sealed t k) at is =
        journals w h (kind.Log t) (descriptor_at (slot_of_txn h (last_txn h))) (k + 1) e
        (record { buffers = k; before = at; place = refl; long = refl }) is
    by_stage (Logging t) at is =
        by_row (nat_lt 0 (under_way h)) None (add_commit (commit_state w h) t) (Some e) is
        (λ waits same. absurd (cc))
        (λ done same. journals w h (kind.Commit t) (commit_at (slot_of_txn h (last_txn h))) 1 e
        (record { before = at; done = grind (arith, nat_tests); place = refl; long = refl }) same)
    by_stage (Committing t) at is =
        by_row (nat_lt 0 (under_way h)) None (next_of_idle (commit_state w h)) (Some e) is
        (λ waits same. absurd (cc))
        (λ done same. in_idle w h e (idle_committed t at (grind (arith, nat_tests))) same)
    by_stage (Homing t) at is = in_homing w h t e at is
    by_stage (Clearing t) at is =
        by_row (nat_lt 0 (under_way h)) None (next_of_clearing (commit_state w h)) (Some e) is
        (λ waits same. absurd (cc))
        (λ done same. in_clearing w h e (clear_next t at (grind (arith, nat_tests)))
        (λ none. idle_cleared t at (grind (arith, nat_tests)) none) same)

by_dispatcher : (w : Workload) (h : List Event) (e : Event) → next w h Dq ≡ Some e → Comes w h Dq e
by_dispatcher w h e n =
    by_row (not (nat_lt (length (in_flight h)) w.depth)) None
    (elim (pick w h) [ None ↦ None | Some r ↦ Some (send_of h r) ]) (Some e) n
    (λ test is. absurd (cc))
    (λ test is. by_some (pick w h) (λ r. Some (send_of h r)) e is
    (λ r picked at. comes w h Dq (send_of h r) e (came_send r (grind (arith, nat_tests)) picked) refl at))

pub next_comes : (w : Workload) (h : List Event) (a : Actor) (e : Event) → next w h a ≡ Some e → Comes w h a e
next_comes w h (Client p) e n = by_client w h p e n
next_comes w h Wb e n = by_writeback w h e n
next_comes w h Cm e n = by_commit w h e n
next_comes w h Dq e n = by_dispatcher w h e n
next_comes w h (Dn k) e n =
    by_some (slice_get (in_flight h) k) (λ r. Some (Done k r.id true)) e n
    (λ r at is. comes w h (Dn k) (Done k r.id true) e (came_done k r at) refl is)
next_comes w h Tk e n = absurd (cc)

-- the next event of an actor comes from one of the rows, and the actor makes it
pub came : (w : Workload) (h : List Event) (a : Actor) (e : Event) → next w h a ≡ Some e → Came w h e
came w h a e n = (next_comes w h a e n).row

pub maker_is : (w : Workload) (h : List Event) (a : Actor) (e : Event) → next w h a ≡ Some e → maker e ≡ a
maker_is w h a e n = (next_comes w h a e n).made
