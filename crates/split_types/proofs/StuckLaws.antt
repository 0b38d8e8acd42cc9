-- Where no actor that is asked in turn has a next event, a legal history of an accepted workload is drained.
use Rattle.std.proofs.Common.{◌≡◌, ℕ, zero, suc, ◌+◌, ◌==◌, ◌≤◌, List, [], ◌∷◌, ◌++◌, length, map, filter, slice_get, get_or, option_map, Bool, true, false, not, ◌&&◌, is_some, Option, Some, None, refl, arith, ap, subst, sym, ◌∙◌, nat_lt, nat_le, inl, inr, if◌then◌else◌}
use Rattle.std.specs.Prelude.{is_none}
use Rattle.std.specs.List.{range_with_len, list_any, list_all, flat_map}
use Rattle.std.proofs.lemmas.Bool.{and_from, and_parts, and_right, or_left, eq-eqb, eqb-true, lt-ltb, not_from_false, not_from_true, false_from_ne_true, cases_lt, cond_both}
use Rattle.std.proofs.lemmas.Bool.Decides.{nat_tests}
use Rattle.std.proofs.lemmas.List.Folds.{list_any_none}
use Rattle.std.proofs.lemmas.Option.{slice_get_within}
use Rattle.split_types.specs.declared.ids.Pid.{Pid}
use Rattle.split_types.specs.declared.ids.Serial.{Serial}
use Rattle.split_types.specs.declared.ids.Txn.{Txn}
use Rattle.split_types.specs.declared.buf.Buf.{Buf}
use Rattle.split_types.specs.declared.buf.Buf.TheVariants.{Page}
use Rattle.split_types.specs.declared.call.Call.{Call}
use Rattle.split_types.specs.declared.call.Call.TheVariants.{Creat, Write, Read, Fsync, Unlink}
use Rattle.split_types.specs.declared.call.Reply.{Reply}
use Rattle.split_types.specs.declared.call.Reply.TheVariants as reply
use Rattle.split_types.specs.declared.actor.Actor.{Actor}
use Rattle.split_types.specs.declared.actor.Actor.TheVariants.{Client, Wb, Cm, Dq, Dn, Tk}
use Rattle.split_types.specs.declared.request.Request.{Request}
use Rattle.split_types.specs.declared.request.Run.{Run}
use Rattle.split_types.specs.declared.request.Service.{Service}
use Rattle.split_types.specs.declared.request.Service.TheVariants.{Idle, Serving, Mapped}
use Rattle.split_types.specs.declared.workload.Workload.{Workload}
use Rattle.split_types.specs.declared.event.Event.{Event}
use Rattle.split_types.specs.declared.event.Event.TheVariants.{Enter, Admit, Flushed, Ret, Serve, Skip, Done, Evict}
use Rattle.split_types.specs.Rows.{◌⇒◌∣◌}
use Rattle.split_types.specs.History.{◌▹◌}
use Rattle.split_types.specs.Hooks.{maker, same_buf}
use Rattle.split_types.specs.Requests.{requests, queued, in_flight, unfinished}
use Rattle.split_types.specs.Pages.{is_dirty, is_busy, is_ready}
use Rattle.split_types.specs.Workloads.{processes, calls_of}
use Rattle.split_types.specs.Calls.{returned, is_entered, is_admitted, has_acted, moved, call_of, is_finished}
use Rattle.split_types.specs.Files.{is_live, is_name_taken, bound_file}
use Rattle.split_types.specs.FileSizes.{working_file}
use Rattle.split_types.specs.FileMaps.{mapped_block, free_blocks, has_no_block, is_reserved, reserved_pages, is_without_space, is_in_mapped_run}
use Rattle.split_types.specs.LiveFiles.{free_slot}
use Rattle.split_types.specs.FileSlots.{live_files}
use Rattle.split_types.specs.ServedRuns.{is_up_to, lesser_page, least_page, first_ready, run_from, run_to_serve, free_run_of}
use Rattle.split_types.specs.Reads.{is_loading, is_read_badly}
use Rattle.split_types.specs.HeldPages.{is_held, is_full, is_unsettled, is_crowded, known_pages}
use Rattle.split_types.specs.Victims.{victim}
use Rattle.split_types.specs.Pieces.{Piece, is_whole, piece_left, got}
use Rattle.split_types.specs.Schedulers.{admits, pick}
use Rattle.split_types.specs.Accepted.{IsAccepted}
use Rattle.split_types.specs.Clients.{PieceState, piece_state, state_left, client_state, most_bytes, put_of, get_of, load_of, evict_of, next_of_absent, next_of_put, next_of_get, next_of_fsync, next_of_write, next_on_file, next_of_bound, make_in, next_of_creat, next_of_unlink, next_of_admitted, next_of_call, next_of_client}
use Rattle.split_types.specs.Writeback.{service, served_run}
use Rattle.split_types.specs.Serving.{ServiceState, service_state, bytes_up_to, map_of, map_free, add_of, next_of_placed, next_of_serving, next_of_mapped, unless_dropped, next_serve, next_in_service}
use Rattle.split_types.specs.Next.{send_of, next, next_of_dispatcher, next_of_completion}
use Rattle.split_types.specs.Legal.{IsLegal, first_next}
use Rattle.split_types.specs.Draining.{NeverStuck}
use Rattle.split_types.specs.MapsInOrder.{IsServed}
use Rattle.split_types.specs.Proving.Came.{Came}
use Rattle.split_types.specs.Proving.Came.Came.{came_changed, came_exists, came_no_slot, came_no_file, came_too_big, came_wrote, came_read, came_fault, came_no_space, came_synced}
use Rattle.split_types.specs.Proving.Known.{Known}
use Rattle.split_types.specs.Proving.Waits.{WaitsEnd}
use Rattle.split_types.specs.OpenDirtyings.{open_at}
use Rattle.split_types.specs.DiskBytes.{adding}
use Rattle.split_types.specs.Syncing.{admit_place, taken_puts, unwritten_puts, is_unwritten, is_written, awaited_txn, is_safe}
use Rattle.split_types.specs.Transactions.{is_of_commit, marked_buffers, in_journal}
use Rattle.split_types.proofs.PutLaws.{bound_of}
use Rattle.split_types.proofs.OpenLaws.{dirty_are_open}
use Rattle.split_types.proofs.WaitLaws.{some_picked, awaited_sealed}
use Rattle.split_types.proofs.StuckJournal.{Rests, rests, all_committed}
use Rattle.split_types.specs.IsWorkload.{IsAsked}
use Rattle.split_types.proofs.AcceptedLaws.{call_is}
use Rattle.split_types.proofs.CameLaws.{came}
use Rattle.split_types.proofs.Lists.{some_at, any_in_filter}
use Rattle.split_types.proofs.HeldLaws.{same_buf-is, pages_are_known}
use Rattle.split_types.proofs.MapRuns.{least_passes}
use Rattle.split_types.proofs.WaitingLaws.{nothing_left}
use Rattle.split_types.proofs.KnownLaws.{maps_known, known}
use Rattle.split_types.proofs.VictimExists.{IsQuiet, HasVictim, quiet, not_crowded, victim_there}

-- ---- who has no next event
-- the first actors, and the rest
none_parts : (w : Workload) (h : List Event) (xs ys : List Actor) → first_next w h (xs ++ ys) ≡ None
    → (first_next w h xs ≡ None) × (first_next w h ys ≡ None)
none_parts w h [] ys none = (refl, none)
none_parts w h (a ∷ xs) ys none = go (next w h a) (none_parts w h xs ys) none
  where
    go : (o : Option Event)
        → (first_next w h (xs ++ ys) ≡ None → (first_next w h xs ≡ None) × (first_next w h ys ≡ None))
        → ◌≡◌ {A = Option Event} (elim o [ Some e ↦ Some e | None ↦ first_next w h (xs ++ ys) ]) None
        → (◌≡◌ {A = Option Event} (elim o [ Some e ↦ Some e | None ↦ first_next w h xs ]) None)
        × (first_next w h ys ≡ None)
    go None more none = more none
    go (Some e) more none = absurd (cc)

-- the first actor, and the others
none_first : (w : Workload) (h : List Event) (a : Actor) (xs : List Actor) → first_next w h (a ∷ xs) ≡ None
    → (next w h a ≡ None) × (first_next w h xs ≡ None)
none_first w h a xs none = go (next w h a) none
  where
    go : (o : Option Event) → ◌≡◌ {A = Option Event} (elim o [ Some e ↦ Some e | None ↦ first_next w h xs ]) None
        → (o ≡ None) × (first_next w h xs ≡ None)
    go None none = (refl, none)
    go (Some e) none = absurd (cc)

-- ---- processes
of_client : (w : Workload) (h : List Event) (p : ℕ) → 1 ≤ p → p ≤ length w.procs
    → next w h (Client (record { 0 = p })) ≡ next_of_client (client_state w h (record { 0 = p }))
of_client w h p least most = rw (within p (length w.procs) least most) refl
  where
    within : (p n : ℕ) → 1 ≤ p → p ≤ n → (nat_le 1 p && nat_le p n) ≡ true
    within p n least most = grind (arith, nat_tests)

admits_all : (w : Workload) (h : List Event) (p : ℕ) → IsAccepted w → admits w h p ≡ true
admits_all w h p accepted = rw accepted.built.sched refl

-- what a client finds where the requests and writeback rest: no page loads or is in a run that was mapped and not added,
-- the stack isn't crowded, and a full cache has a victim
record IsFree (w : Workload) (h : List Event) : Type 0 where
  loading : (b : Buf) → is_loading w h b ≡ false
  out : (b : Buf) → is_in_mapped_run h b ≡ false
  calm : is_crowded w h ≡ false
  room : is_full w h ≡ true → HasVictim w h
  down : (s : Serial) (at : ℕ) → is_written h (Some s) at ≡ true
  safe : (p : ℕ) → is_safe h (awaited_txn w h p) ≡ true

evict_left : (w : Workload) (h : List Event) (p : Pid) → HasVictim w h → evict_of p (victim w h) ≡ None → ⊥
evict_left w h p v none =
    let some : Some (Evict p v.serial v.page) ≡ None = sym (ap (evict_of p) v.is) ∙ none in absurd (cc)

-- a piece of a write that is left has a next event
absent_left : (s : PieceState) (fill : ℕ) → next_of_absent s fill ≡ None → ⊥
absent_left s fill none = go (is_whole s.piece) s.block none
  where
    go : (whole : Bool) (block : Option ℕ)
        → ◌≡◌ {A = Option Event}
        (whole ⇒ Some (put_of s fill) ∣ elim block [ None ↦ Some (put_of s fill) | Some n ↦ Some (load_of s n) ]) None
        → ⊥
    go true block is = absurd (cc)
    go false None is = absurd (cc)
    go false (Some n) is = absurd (cc)

put_left : (w : Workload) (h : List Event) (p : Pid) (serial : Serial) (piece : Piece) (fill : ℕ) → IsFree w h
    → next_of_put (piece_state w h p serial piece) fill ≡ None → ⊥
put_left w h p serial piece fill free none =
    go (is_read_badly h p.0 b) (is_loading w h b) (is_in_mapped_run h b) (is_without_space w h b)
    (not (is_unsettled w h b) && is_crowded w h) (is_held w h b) (is_full w h) (free.loading b) (free.out b)
    (and_right (not (is_unsettled w h b)) (is_crowded w h) free.calm) free.room none
  where
    b : Buf
    b = Page serial piece.page

    s : PieceState
    s = piece_state w h p serial piece

    go : (bad loads mapped without waits held full : Bool) → loads ≡ false → mapped ≡ false → waits ≡ false
        → (full ≡ true → HasVictim w h)
        → ◌≡◌ {A = Option Event}
        (bad ⇒ Some (Ret p reply.ReadFault) ∣ loads ⇒ None ∣ mapped ⇒ None
        ∣ without ⇒ Some (Ret p (reply.NoSpace (moved h p.0))) ∣ waits ⇒ None ∣ held ⇒ Some (put_of s fill)
        ∣ full ⇒ evict_of p (victim w h) ∣ next_of_absent s fill) None
        → ⊥
    go true loads mapped without waits held full there out calm room is = absurd (cc)
    go false true mapped without waits held full there out calm room is = absurd (cc)
    go false false true without waits held full there out calm room is = absurd (cc)
    go false false false true waits held full there out calm room is = absurd (cc)
    go false false false false true held full there out calm room is = absurd (cc)
    go false false false false false true full there out calm room is = absurd (cc)
    go false false false false false false true there out calm room is = evict_left w h p (room refl) is
    go false false false false false false false there out calm room is = absent_left s fill is

-- a piece of a read that is left has a next event
get_left : (w : Workload) (h : List Event) (p : Pid) (serial : Serial) (piece : Piece) → IsFree w h
    → next_of_get (piece_state w h p serial piece) ≡ None → ⊥
get_left w h p serial piece free none =
    go (is_read_badly h p.0 b) (is_loading w h b) (is_held w h b) s.block (is_full w h) (free.loading b) free.room none
  where
    b : Buf
    b = Page serial piece.page

    s : PieceState
    s = piece_state w h p serial piece

    go : (bad loads held : Bool) (block : Option ℕ) (full : Bool) → loads ≡ false → (full ≡ true → HasVictim w h)
        → ◌≡◌ {A = Option Event}
        (bad ⇒ Some (Ret p reply.ReadFault) ∣ loads ⇒ None ∣ held ⇒ Some (get_of s s.sum)
        ∣ elim block [
          | None ↦ Some (get_of s 0)
          | Some n ↦ full ⇒ evict_of p (victim w h) ∣ Some (load_of s n)
        ]) None
        → ⊥
    go true loads held block full there room is = absurd (cc)
    go false true held block full there room is = absurd (cc)
    go false false true block full there room is = absurd (cc)
    go false false false None full there room is = absurd (cc)
    go false false false (Some n) true there room is = evict_left w h p (room refl) is
    go false false false (Some n) false there room is = absurd (cc)

-- a write or read that is admitted, and whose file is there, has a next event
write_left : (w : Workload) (h : List Event) (p : Pid) (name : List ℕ) (off len fill : ℕ) (serial : Serial) → IsFree w h
    → working_file w h p.0 ≡ Some serial → next_on_file (client_state w h p) (Write name off len fill) serial ≡ None → ⊥
write_left w h p name off len fill serial free file none = fits (nat_lt most_bytes (off + len)) none
  where
    go : (o : Option Piece)
        → ◌≡◌ {A = Option Event}
        (elim (option_map (piece_state w h p serial) o) [
          | None ↦ Some (Ret p reply.Done)
          | Some s ↦ next_of_put s fill
        ]) None
        → ⊥
    go None is = absurd (cc)
    go (Some piece) is = put_left w h p serial piece fill free is

    fits : (big : Bool)
        → ◌≡◌ {A = Option Event} (big ⇒ Some (Ret p reply.TooBig) ∣ next_of_write (client_state w h p) fill) None → ⊥
    fits true is = absurd (cc)
    fits false is =
        go (piece_left w h p.0)
        (subst (λ o. (elim (state_left w h p o) [
          | None ↦ Some (Ret p reply.Done)
          | Some s ↦ next_of_put s fill
        ]) ≡ None) file is)

read_left : (w : Workload) (h : List Event) (p : Pid) (name : List ℕ) (off len : ℕ) (serial : Serial) → IsFree w h
    → working_file w h p.0 ≡ Some serial → next_on_file (client_state w h p) (Read name off len) serial ≡ None → ⊥
read_left w h p name off len serial free file none =
    go (piece_left w h p.0)
    (subst (λ o. (elim (state_left w h p o) [
      | None ↦ Some (Ret p (reply.Count (moved h p.0) (got h p.0)))
      | Some s ↦ next_of_get s
    ]) ≡ None) file none)
  where
    go : (o : Option Piece)
        → ◌≡◌ {A = Option Event}
        (elim (option_map (piece_state w h p serial) o) [
          | None ↦ Some (Ret p (reply.Count (moved h p.0) (got h p.0)))
          | Some s ↦ next_of_get s
        ]) None
        → ⊥
    go None is = absurd (cc)
    go (Some piece) is = get_left w h p serial piece free is

-- a call that works on a file has a next event where it has one on each file that it may work on
bound_left : (w : Workload) (h : List Event) (p : Pid) (c : Call)
    → ((serial : Serial) → working_file w h p.0 ≡ Some serial
    → next_on_file (client_state w h p) c serial ≡ None → ⊥)
    → next_of_bound (client_state w h p) c ≡ None → ⊥
bound_left w h p c on none = go (working_file w h p.0) refl none
  where
    go : (o : Option Serial) → working_file w h p.0 ≡ o
        → ◌≡◌ {A = Option Event}
        (elim o [
          | None ↦ Some (Ret p reply.NoFile)
          | Some serial ↦ next_on_file (client_state w h p) c serial
        ]) None
        → ⊥
    go None file is = absurd (cc)
    go (Some serial) file is = on serial file is

-- a creat that is admitted has a next event
creat_left : (w : Workload) (h : List Event) (p : Pid) → next_of_creat (client_state w h p) ≡ None → ⊥
creat_left w h p none =
    go (has_acted h p.0) (is_name_taken w h (call_of w h p.0)) (free_slot (live_files w h)) none
  where
    go : (acted taken : Bool) (o : Option ℕ)
        → ◌≡◌ {A = Option Event}
        (acted ⇒ Some (Ret p reply.Done) ∣ taken ⇒ Some (Ret p reply.Exists) ∣ make_in (client_state w h p) o) None
        → ⊥
    go true taken o is = absurd (cc)
    go false true o is = absurd (cc)
    go false false None is = absurd (cc)
    go false false (Some slot) is = absurd (cc)

-- an unlink that is admitted has a next event
unlink_left : (w : Workload) (h : List Event) (p : Pid) (name : List ℕ)
    → next_of_unlink (client_state w h p) (Unlink name) ≡ None → ⊥
unlink_left w h p name none = go (has_acted h p.0) none
  where
    drops : (serial : Serial) → next_on_file (client_state w h p) (Unlink name) serial ≡ None → ⊥
    drops serial is = absurd (cc)

    go : (acted : Bool)
        → ◌≡◌ {A = Option Event}
        (acted ⇒ Some (Ret p reply.Done) ∣ next_of_bound (client_state w h p) (Unlink name)) None
        → ⊥
    go true is = absurd (cc)
    go false is = bound_left w h p (Unlink name) (λ serial file none. drops serial none) is

-- an fsync that is admitted, and whose file is there, has a next event
fsync_left : (w : Workload) (h : List Event) (p : Pid) (serial : Serial) → IsFree w h
    → working_file w h p.0 ≡ Some serial → next_of_fsync (client_state w h p) ≡ None → ⊥
fsync_left w h p serial free file none =
    go (has_acted h p.0) (is_written h (bound_file w h p.0) (admit_place h p.0)) (is_safe h (awaited_txn w h p.0))
    (ap (λ o. is_written h o (admit_place h p.0)) (bound_of w h (bound_file w h p.0) serial file)
    ∙ free.down serial (admit_place h p.0))
    (free.safe p.0) none
  where
    go : (acted down safe : Bool) → down ≡ true → safe ≡ true
        → ◌≡◌ {A = Option Event}
        (not acted ⇒ (if down then Some (Flushed p) else None) ∣ (if safe then Some (Ret p reply.Done) else None)) None
        → ⊥
    go true down true flushed committed is = absurd (cc)
    go true down false flushed committed is = absurd (cc)
    go false true safe flushed committed is = absurd (cc)
    go false false safe flushed committed is = absurd (cc)

-- a call that is admitted has a next event
admitted_left : (w : Workload) (h : List Event) (p : Pid) (c : Call) → IsAsked c → IsFree w h
    → next_of_admitted (client_state w h p) c ≡ None → ⊥
admitted_left w h p (Creat name) taken free none = creat_left w h p none
admitted_left w h p (Write name off len fill) taken free none =
    bound_left w h p (Write name off len fill)
    (λ serial file is. write_left w h p name off len fill serial free file is) none
admitted_left w h p (Read name off len) taken free none =
    bound_left w h p (Read name off len) (λ serial file is. read_left w h p name off len serial free file is) none
admitted_left w h p (Fsync name) taken free none =
    bound_left w h p (Fsync name) (λ serial file is. fsync_left w h p serial free file is) none
admitted_left w h p (Unlink name) taken free none = unlink_left w h p name none

-- a process with a call left has a next event
call_left : (w : Workload) (h : List Event) (p : Pid) (c : Call) → IsAccepted w → IsAsked c → IsFree w h
    → next_of_call (client_state w h p) c ≡ None → ⊥
call_left w h p c accepted taken free none =
    go (is_entered h p.0) (is_admitted h p.0) (admits w h p.0) (admits_all w h p.0 accepted) none
  where
    go : (en ad may : Bool) → may ≡ true
        → ◌≡◌ {A = Option Event}
        (not en ⇒ Some (Enter p (returned h p.0)) ∣ not ad ⇒ (if may then Some (Admit p) else None)
        ∣ next_of_admitted (client_state w h p) c) None
        → ⊥
    go false ad may lets is = absurd (cc)
    go true false true lets is = absurd (cc)
    go true false false lets is = absurd (cc)
    go true true may lets is = admitted_left w h p c taken free is

-- no more calls return than a process has
returned_within : (w : Workload) (h : List Event) (p : ℕ) → IsLegal w h → returned h p ≤ length (calls_of w p)
returned_within w [] p legal = omega arith
returned_within w (h ▹ Ret q r) p legal =
    cond_both (q.0 == p) (returned h p + 1) (returned h p) (λ n. n ≤ length (calls_of w p))
    (λ same. (let has = returning w h q r (came w h (maker (Ret q r)) (Ret q r) legal.0)
    in let call : call_of w h p ≡ Some has.0 =
    subst (λ n. call_of w h n ≡ Some has.0) (eqb-true q.0 p same) has.1
    in let below = slice_get_within (calls_of w p) (returned h p) has.0 call
    in omega (arith, below)))
    (λ other. returned_within w h p legal.1)
  where
    returning : (w : Workload) (h : List Event) (q : Pid) (r : Reply) → Came w h (Ret q r)
        → (c : Call) × (call_of w h q.0 ≡ Some c)
    returning w h q r (came_changed p c admitted names acted) = (c, admitted.has.call)
    returning w h q r (came_exists p name admitted idle taken) = (Creat name, admitted.has.call)
    returning w h q r (came_no_slot p name admitted idle unused full) = (Creat name, admitted.has.call)
    returning w h q r (came_no_file p c admitted none) = (c, admitted.has.call)
    returning w h q r (came_too_big p name off len fill s working big) =
        (Write name off len fill, working.admitted.has.call)
    returning w h q r (came_synced p name s working acted safe) = (Fsync name, working.admitted.has.call)
    returning w h q r (came_wrote p name off len fill s working none) =
        (Write name off len fill, working.admitted.has.call)
    returning w h q r (came_read p name off len s working none) = (Read name off len, working.admitted.has.call)
    returning w h q r (came_fault p c s piece working left bad) = (c, working.admitted.has.call)
    returning w h q r (came_no_space p name off len fill s piece here out none) =
        (Write name off len fill, here.working.admitted.has.call)
returned_within w (h ▹ e) p legal = returned_within w h p legal.1

finished_is : (w : Workload) (h : List Event) (p : ℕ) → IsAccepted w → IsFree w h
    → returned h p ≤ length (calls_of w p) → next_of_client (client_state w h (record { 0 = p })) ≡ None
    → is_finished w h p ≡ true
finished_is w h p accepted free within none = elim (cases_lt (returned h p) (length (calls_of w p))) [
  | inl below ↦ (let c = some_at (calls_of w p) (returned h p) below
      in absurd (call_left w h (record { 0 = p }) c.0 accepted (call_is w accepted p (returned h p) c.0 c.1) free
      (subst (λ o. ◌≡◌ {A = Option Event} (elim o [
        | None ↦ None
        | Some d ↦ next_of_call (client_state w h (record {
          0 = p;
        })) d
      ]) None) c.1 none)))
  | inr past ↦ eq-eqb (returned h p) (length (calls_of w p)) (omega arith)
]

all_finished : (w : Workload) (h : List Event) (lo m : ℕ) → IsAccepted w → IsFree w h
    → ((p : ℕ) → returned h p ≤ length (calls_of w p)) → 1 ≤ lo → lo + m ≤ length w.procs + 1
    → first_next w h (map (λ p. Client (record { 0 = p })) (range_with_len lo m)) ≡ None
    → list_all (is_finished w h) (range_with_len lo m) ≡ true
all_finished w h lo zero accepted free within least most none = refl
all_finished w h lo (suc m) accepted free within least most none =
    let here =
    none_first w h (Client (record { 0 = lo }))
    (map (λ p. Client (record { 0 = p })) (range_with_len (lo + 1) m)) none
    in and_from _ _ (finished_is w h lo accepted free (within lo) (sym (of_client w h lo least (omega arith)) ∙ here.0))
    (all_finished w h (lo + 1) m accepted free within (omega arith) (omega arith) here.1)

-- ---- writeback
-- where a service has no next event its file is there, and its table gives none
unskipped : (s : ServiceState) (e : Option Event) → unless_dropped s e ≡ None → (s.live ≡ true) × (e ≡ None)
unskipped s e none = go s.live none
  where
    go : (live : Bool) → ◌≡◌ {A = Option Event} (not live ⇒ Some Skip ∣ e) None → (live ≡ true) × (e ≡ None)
    go true is = (refl, is)
    go false is = absurd (cc)

-- a run that is mapped and not added has a next event
mapped_left : (w : Workload) (h : List Event) (run : Run) → IsAccepted w → IsLegal w h → service h ≡ Mapped run
    → next_in_service w h (Mapped run) ≡ None → ⊥
mapped_left w h run accepted legal at none =
    go (mapped_block w h run.serial.0 run.page) (maps_known.mapped w h run accepted legal at)
    (unskipped (service_state w h run) (next_of_mapped (service_state w h run)) none).1
  where
    go : (o : Option ℕ) → is_some o ≡ true
        → ◌≡◌ {A = Option Event}
        (elim o [ None ↦ None | Some block ↦ Some (add_of (service_state w h run) block) ]) None
        → ⊥
    go None some is = absurd (cc)
    go (Some block) some is = absurd (cc)

-- a list of which an element passes a test isn't empty
some_there : {X : Type 0} (p : X → Bool) (xs : List X) → list_any p xs ≡ true → 1 ≤ length xs
some_there p [] any = absurd (cc)
some_there p (x ∷ xs) any = omega arith

-- where a page without a block is dirty some block is free
block_left : (w : Workload) (h : List Event) (s : Serial) (g : ℕ) → IsAccepted w → IsLegal w h
    → is_dirty w h (Page s g) ≡ true → mapped_block w h s.0 g ≡ None → 1 ≤ length (free_blocks w h)
block_left w h s g accepted legal dirty none = omega (arith, some_there same (reserved_pages w h) kept, promised)
  where
    same : Buf → Bool
    same = same_buf (Page s g)

    reserved : is_reserved w h (Page s g) ≡ true
    reserved = and_from (is_dirty w h (Page s g)) (has_no_block w h (Page s g)) dirty (ap is_none none)

    kept : list_any same (reserved_pages w h) ≡ true
    kept =
        any_in_filter same (is_reserved w h) (known_pages h)
        (λ b is. subst (λ x. is_reserved w h x ≡ true) (same_buf-is (Page s g) b is) reserved)
        (pages_are_known.unsettled w h (Page s g)
        (or_left (is_dirty w h (Page s g)) (is_busy w h (Page s g)) dirty))

    promised : length (reserved_pages w h) ≤ length (free_blocks w h)
    promised = maps_known.promised w h accepted legal

-- the first page of a run that is served is dirty where its file is there
first_dirty : (w : Workload) (h : List Event) (run : Run) → IsAccepted w → IsLegal w h → service h ≡ Serving run
    → is_live w h run.serial.0 ≡ true → is_dirty w h (Page run.serial run.page) ≡ true
first_dirty w h run accepted legal at live =
    (and_parts (is_dirty w h (Page run.serial run.page)) (not (is_busy w h (Page run.serial run.page))) ready).0
  where
    served : IsServed w h run
    served = maps_known.served w h run accepted legal (ap served_run at)

    same : run.page + 0 ≡ run.page
    same = omega arith

    ready : is_ready w h (Page run.serial run.page) ≡ true
    ready =
        subst (λ g. is_ready w h (Page run.serial g) ≡ true) same
        (served.ready live 0 (omega (arith, served.some)))

-- pages without blocks get free ones
map_left : (w : Workload) (h : List Event) (run : Run) → 1 ≤ length (free_blocks w h)
    → map_free (service_state w h run) ≡ None → ⊥
map_left w h run some none = go (free_blocks w h) some none
  where
    go : (blocks : List ℕ) → 1 ≤ length blocks
        → ◌≡◌ {A = Option Event}
        (elim (free_run_of blocks run.n) [
          | None ↦ None
          | Some f ↦ Some (map_of (service_state w h run) f.n f.first true)
        ]) None
        → ⊥
    go [] some is = absurd (omega arith)
    go (x ∷ blocks) some is = absurd (cc)

-- pages that have blocks are added, or the inode is to say more bytes first
placed_left : (s : ServiceState) (block : ℕ) → next_of_placed s block ≡ None → ⊥
placed_left s block none = go (nat_lt s.disk_size (bytes_up_to s s.run.n)) none
  where
    go : (short : Bool)
        → ◌≡◌ {A = Option Event} (short ⇒ Some (map_of s s.run.n block false) ∣ Some (add_of s block)) None → ⊥
    go true is = absurd (cc)
    go false is = absurd (cc)

-- a run that is served and neither mapped nor added has a next event
serving_left : (w : Workload) (h : List Event) (run : Run) → IsAccepted w → IsLegal w h → service h ≡ Serving run
    → next_in_service w h (Serving run) ≡ None → ⊥
serving_left w h run accepted legal at none =
    let goes = unskipped (service_state w h run) (next_of_serving (service_state w h run)) none
    in go goes.0 (mapped_block w h run.serial.0 run.page) refl goes.1
  where
    go : is_live w h run.serial.0 ≡ true → (o : Option ℕ) → mapped_block w h run.serial.0 run.page ≡ o
        → ◌≡◌ {A = Option Event}
        (elim o [
          | None ↦ map_free (service_state w h run)
          | Some block ↦ next_of_placed (service_state w h run) block
        ]) None
        → ⊥
    go live None unmapped is =
        map_left w h run
        (block_left w h run.serial run.page accepted legal (first_dirty w h run accepted legal at live) unmapped) is
    go live (Some block) mapped is = placed_left (service_state w h run) block is

-- where writeback has no next event no service is under way
none_served : (w : Workload) (h : List Event) → IsAccepted w → IsLegal w h → next w h Wb ≡ None → service h ≡ Idle
none_served w h accepted legal none = go (service h) refl none
  where
    go : (s : Service) → service h ≡ s → next_in_service w h s ≡ None → service h ≡ Idle
    go Idle at is = at
    go (Serving run) at is = absurd (serving_left w h run accepted legal at is)
    go (Mapped run) at is = absurd (mapped_left w h run accepted legal at is)

-- some pages have a first one
least_left : (bufs : List Buf) → 1 ≤ length bufs → least_page bufs ≡ None → ⊥
least_left [] some none = absurd (omega arith)
least_left (b ∷ bufs) some none = go (least_page bufs) none
  where
    either : (c : Buf) (first : Bool) → ◌≡◌ {A = Option Buf} (if first then Some b else Some c) None → ⊥
    either c true is = absurd (cc)
    either c false is = absurd (cc)

    go : (o : Option Buf) → lesser_page b o ≡ None → ⊥
    go None is = absurd (cc)
    go (Some c) is = either c (is_up_to b c) is

-- a run begins at a page that may be served
run_left : (w : Workload) (h : List Event) (b : Buf) → is_ready w h b ≡ true → run_from w h b ≡ None → ⊥
run_left w h (Page s g) ready none = absurd (cc)
run_left w h b ready none = absurd (cc)

-- where a page may be served, a run is there to serve
serve_left : (w : Workload) (h : List Event) → list_any (is_ready w h) (known_pages h) ≡ true
    → next_serve w h ≡ None → ⊥
serve_left w h any none = go (first_ready w h) refl (serves (run_to_serve w h) none)
  where
    some : 1 ≤ length (filter (is_ready w h) (known_pages h))
    some =
        some_there (is_ready w h) (filter (is_ready w h) (known_pages h))
        (any_in_filter (is_ready w h) (is_ready w h) (known_pages h) (λ b is. is) any)

    serves : (o : Option Run)
        → ◌≡◌ {A = Option Event} (elim o [ None ↦ None | Some run ↦ Some (Serve run.serial run.page run.n) ]) None
        → o ≡ None
    serves None is = refl
    serves (Some run) is = absurd (cc)

    go : (o : Option Buf) → first_ready w h ≡ o
        → ◌≡◌ {A = Option Run} (elim o [ None ↦ None | Some b ↦ run_from w h b ]) None
        → ⊥
    go None at is = least_left (filter (is_ready w h) (known_pages h)) some at
    go (Some b) at is = run_left w h b (least_passes (is_ready w h) (known_pages h) b at) is

-- then no page may be served
none_ready : (w : Workload) (h : List Event) → service h ≡ Idle → next w h Wb ≡ None
    → list_any (is_ready w h) (known_pages h) ≡ false
none_ready w h idle none =
    false_from_ne_true (list_any (is_ready w h) (known_pages h))
    (λ any. serve_left w h any (subst (λ s. next_in_service w h s ≡ None) idle none))

-- ---- requests
-- where no completion comes next nothing is in flight
none_flying : (h : List Event) → next_of_completion h 0 ≡ None → in_flight h ≡ []
none_flying h none = go (in_flight h) none
  where
    go : (rs : List Request)
        → ◌≡◌ {A = Option Event} (elim (slice_get rs 0) [ None ↦ None | Some r ↦ Some (Done 0 r.id true) ]) None
        → rs ≡ []
    go [] none = refl
    go (r ∷ rs) none = absurd (cc)

-- where nothing is in flight and the dispatcher has no next event, nothing is queued
none_queued : (w : Workload) (h : List Event) → IsAccepted w → WaitsEnd w h → in_flight h ≡ []
    → next_of_dispatcher w h ≡ None → queued h ≡ []
none_queued w h accepted ends empty none =
    queue (queued h) (λ some. unpicked (pick w h) (ends.picks empty some)
    (go (not (nat_lt (length (in_flight h)) w.depth)) (pick w h) room none))
  where
    room : not (nat_lt (length (in_flight h)) w.depth) ≡ false
    room = rw empty (not_from_true (nat_lt 0 w.depth) (lt-ltb 0 w.depth accepted.workload.machine.depth_least))

    go : (b : Bool) (o : Option Request) → b ≡ false
        → ◌≡◌ {A = Option Event} (b ⇒ None ∣ elim o [ None ↦ None | Some r ↦ Some (send_of h r) ]) None → o ≡ None
    go true o is none = absurd (cc)
    go false None is none = refl
    go false (Some r) is none = absurd (cc)

    unpicked : (o : Option Request) → is_some o ≡ true → o ≡ None → ⊥
    unpicked None some none = absurd (cc)
    unpicked (Some r) some none = absurd (cc)

    queue : (q : List Request) → (1 ≤ length q → ⊥) → q ≡ []
    queue [] none = refl
    queue (r ∷ q) none = absurd (none (omega arith))

-- then no request is unfinished
none_unfinished : (w : Workload) (h : List Event) → Known w h → queued h ≡ [] → in_flight h ≡ [] → unfinished h ≡ []
none_unfinished w h f queue flight =
    nothing_left (requests h) (unfinished h) (λ id. f.waiting.left_once id ∙ rw (queue, flight) refl)

-- ---- all actors
-- where no page is dirty and no request is left, every put is on the disk
all_down : (w : Workload) (h : List Event) → IsAccepted w → IsLegal w h → IsQuiet w h → unfinished h ≡ []
    → (s : Serial) (at : ℕ) → is_written h (Some s) at ≡ true
all_down w h accepted legal q none s at =
    not_from_false (list_any (is_unwritten h s at) (known_pages h))
    (list_any_none (is_unwritten h s at) (known_pages h) (λ k d below. none_here (get_or (known_pages h) k d)))
  where
    none_here : (b : Buf) → is_unwritten h s at b ≡ false
    none_here (Page t g) =
        let empty : open_at h (Page t g) ≡ [] =
        nothing_open (open_at h (Page t g)) (sym (dirty_are_open w h t g accepted legal) ∙ q.dirty (Page t g))
        in let places : unwritten_puts h (Page t g) ≡ [] =
        ap (λ l. l ++ flat_map (λ r. taken_puts (Page t g) (adding h r.id)) (unfinished h)) empty
        ∙ ap (λ l. flat_map (λ r. taken_puts (Page t g) (adding h r.id)) l) none
        in ap (λ l. t.0 == s.0 && list_any (λ i. nat_lt i at) l) places ∙ and_right (t.0 == s.0) false refl
      where
        nothing_open : (places : List ℕ) → nat_lt 0 (length places) ≡ false → places ≡ []
        nothing_open [] is = refl
        nothing_open (i ∷ places) is = absurd (grind (arith, nat_tests))
    none_here b = refl

-- where nothing is marked and the commit thread rests, each transaction that an fsync awaits is committed
all_safe : (w : Workload) (h : List Event) → IsAccepted w → IsLegal w h → WaitsEnd w h → Rests w h → unfinished h ≡ []
    → (p : ℕ) → is_safe h (awaited_txn w h p) ≡ true
all_safe w h accepted legal ends rest none p = go (awaited_txn w h p) refl
  where
    go : (o : Option Txn) → awaited_txn w h p ≡ o → is_safe h o ≡ true
    go None at = refl
    go (Some t) at =
        let sealed = ends.awaited p t at rest.unmarked
        in all_committed w h t accepted legal rest none (record { least = sealed.0; most = sealed.1 })

-- where no page is loading, dirty or busy, no service is under way and the commit thread rests, a client finds all that
free_to_act : (w : Workload) (h : List Event) → IsAccepted w → IsLegal w h → WaitsEnd w h → service h ≡ Idle
    → IsQuiet w h → Rests w h → unfinished h ≡ [] → IsFree w h
free_to_act w h accepted legal ends idle q rest none = record {
  loading = q.loading;
  out = λ b. rw idle refl;
  calm = not_crowded w h accepted q;
  room = victim_there w h accepted legal q;
  down = all_down w h accepted legal q none;
  safe = all_safe w h accepted legal ends rest none;
}

-- what is known of requests and of what fsyncs await
waits_end : (w : Workload) (h : List Event) → IsAccepted w → IsLegal w h → WaitsEnd w h
waits_end w h accepted legal = record {
  picks = some_picked w h accepted legal;
  awaited = λ p t is unmarked. awaited_sealed w h p t accepted legal is unmarked;
}

pub never_stuck : NeverStuck
never_stuck w h accepted legal none =
    let f = known w h accepted legal
    in let ends = waits_end w h accepted legal
    in let halves =
    none_parts w h (map (λ p. Client (record { 0 = p })) (processes w)) (Wb ∷ Cm ∷ Dq ∷ Dn 0 ∷ Tk ∷ []) none
    in let wb = none_first w h Wb (Cm ∷ Dq ∷ Dn 0 ∷ Tk ∷ []) halves.1
    in let cm = none_first w h Cm (Dq ∷ Dn 0 ∷ Tk ∷ []) wb.1
    in let dq = none_first w h Dq (Dn 0 ∷ Tk ∷ []) cm.1
    in let dn = none_first w h (Dn 0) (Tk ∷ []) dq.1
    in let flight = none_flying h dn.0
    in let queue = none_queued w h accepted ends flight dq.0
    in let idle = none_served w h accepted legal wb.0
    in let left = none_unfinished w h f queue flight
    in let q = quiet w h accepted legal left (none_ready w h idle wb.0)
    in let rest = rests w h legal (ap (λ l. length (filter is_of_commit l)) left) idle cm.0
    in let finished =
    all_finished w h 1 (length w.procs) accepted (free_to_act w h accepted legal ends idle q rest left)
    (λ p. returned_within w h p legal) (omega arith) (omega arith) halves.0
    in six (list_all (is_finished w h) (processes w)) (length (queued h) == 0) (length (in_flight h) == 0)
    (not (list_any (is_dirty w h) (known_pages h))) (length (marked_buffers h) == 0) (length (in_journal h) == 0)
    finished (rw queue refl) (rw flight refl)
    (not_from_false _
    (list_any_none (is_dirty w h) (known_pages h) (λ k d below. q.dirty (get_or (known_pages h) k d))))
    (eq-eqb (length (marked_buffers h)) 0 rest.unmarked) (eq-eqb (length (in_journal h)) 0 (rest.stays finished))
  where
    six : (a b c d e f : Bool) → a ≡ true → b ≡ true → c ≡ true → d ≡ true → e ≡ true → f ≡ true
        → (a && b && c && d && e && f) ≡ true
    six a b c d e f p q r s t u = rw (p, q, r, s, t, u) refl
