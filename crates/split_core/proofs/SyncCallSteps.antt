-- What is kept of files and fsyncs after an event of a call.
use Rattle.std.proofs.Common.{◌≡◌, ℕ, ◌+◌, ◌-◌, ◌<◌, ◌≤◌, ◌==◌, Bool, true, false, not, ◌&&◌, ◌||◌, ◌⊎◌, inl, inr, List, [], length, slice_get, slice_index_or, Option, Some, None, refl, ap, sym, ◌∙◌, subst, arith, cond, if◌then◌else◌}
use Rattle.std.specs.Prelude.{slice_set, count_by, is_some, IfSome}
use Rattle.std.proofs.lemmas.Bool.{eq-eqb, ne_eqb}
use Rattle.std.proofs.lemmas.Option.{get_or_from_slice_get, same_Some}
use Rattle.std.proofs.lemmas.List.{length-set, set-get_or}
use Rattle.std.proofs.lemmas.List.Sums.{sum_by-set, count_by-le-length}
use Rattle.split_types.specs.declared.ids.Pid.{Pid}
use Rattle.split_types.specs.declared.ids.Serial.{Serial}
use Rattle.split_types.specs.declared.ids.Slot.{Slot}
use Rattle.split_types.specs.declared.ids.Txn.{Txn}
use Rattle.split_types.specs.declared.actor.Actor.TheVariants.{Client}
use Rattle.split_types.specs.declared.call.Call.{Call}
use Rattle.split_types.specs.declared.call.Call.TheVariants.{Creat}
use Rattle.split_types.specs.declared.call.Reply.{Reply}
use Rattle.split_types.specs.declared.workload.Workload.{Workload}
use Rattle.split_types.specs.declared.event.Event.{Event}
use Rattle.split_types.specs.declared.event.Event.TheVariants.{Admit, Flushed, Ret}
use Rattle.split_types.specs.History.{◌▹◌}
use Rattle.split_types.specs.Calls.{is_admitted, call_of, name_of}
use Rattle.split_types.specs.Files.{is_live, file_for, bound_file}
use Rattle.split_types.specs.FileSlots.{file_in_slot, slot_of}
use Rattle.split_types.specs.FilesInOrder.{AreFiles}
use Rattle.split_types.specs.Syncing.{admit_place, change_txn, change_txn_of, awaited_txn}
use Rattle.split_types.specs.Accepted.{IsAccepted}
use Rattle.split_types.specs.Legal.{IsLegal}
use Rattle.split_types.specs.Proving.Came.{Came}
use Rattle.split_types.specs.Proving.Came.Came.{came_admit, came_flushed}
use Rattle.split_types.proofs.Shared.{some_at, came, live_of, bound_of, files_are_in_order}
use Rattle.split_core.specs.declared.note.syncs.Unwritten.{Unwritten}
use Rattle.split_core.specs.declared.note.syncs.CallSync.{CallSync}
use Rattle.split_core.specs.declared.note.syncs.Syncs.{Syncs}
use Rattle.split_core.specs.Givens.{is_sync}
use Rattle.split_core.specs.Fits.{Fits}
use Rattle.split_core.specs.Syncs.{PutsAre, FileSyncIs, CallSyncIs, SyncsStand, synced_file, has_file, no_call, new_file, live_slot, call_changed, call_admitted, call_flushed, call_returned}
use Rattle.split_core.proofs.SyncFiles.{set_there}
use Rattle.split_core.proofs.SyncPuts.{moves_pages}
use Rattle.split_core.proofs.SyncPutNotes.{puts_quiet}
use Rattle.split_core.proofs.SyncNotes.{IsApart, file_stays, call_stays}
use Rattle.split_core.proofs.SyncNotes.IsApart.{of_admit, of_flushed, of_ret}

-- ---- an event of the call of one process
-- an event of this process's call, of which files and other calls know nothing
pub record IsOfCall (w : Workload) (h : List Event) (e : Event) (by : Pid) : Type 0 where
  pub first : 1 ≤ by.0
  pub pages : moves_pages e ≡ false
  pub slots : (k : ℕ) → file_in_slot w (h ▹ e) k ≡ file_in_slot w h k
  pub change : (n : ℕ) → change_txn (h ▹ e) n ≡ change_txn h n
  pub apart : (p : ℕ) → (by.0 == p) ≡ false → IsApart p e

-- what is kept of that process becomes another
one_call : (w : Workload) (h : List Event) (e : Event) (by : Pid) (f : CallSync → CallSync) (old new : List CallSync)
    → IsOfCall w h e by → new ≡ call_changed f (by.0 - 1) old
    → ((x : CallSync) → slice_get old (by.0 - 1) ≡ Some x → CallSyncIs w (h ▹ e) by.0 (f x))
    → ((i : ℕ) (x : CallSync) → slice_get old i ≡ Some x → CallSyncIs w h (i + 1) x)
    → (i : ℕ) (y : CallSync) → slice_get new i ≡ Some y → CallSyncIs w (h ▹ e) (i + 1) y
one_call w h e by f old new of is own others i y there =
    elim (set_there old (by.0 - 1) i (f (slice_index_or old (by.0 - 1) no_call)) y
    (ap (λ l. slice_get l i) (sym is) ∙ there)) [
      | inl one ↦
          (let was = some_at old (by.0 - 1) one.2
          in let read : slice_index_or old (by.0 - 1) no_call ≡ was.0 =
          get_or_from_slice_get old (by.0 - 1) was.0 no_call was.1
          in let place : by.0 ≡ i + 1 = omega (arith, of.first, one.0)
          in subst (λ (x : CallSync). CallSyncIs w (h ▹ e) (i + 1) x) (ap f (sym read) ∙ sym one.1)
          (subst (λ n. CallSyncIs w (h ▹ e) n (f was.0)) place (own was.0 was.1)))
      | inr other ↦ call_stays w h e (i + 1) y y (of.apart (i + 1) (not_here other.0)) refl refl
          (λ t at most file are. puts_quiet h e t at y.pages of.pages are) (others i y other.1)
    ]
  where
    not_here : (i ≡ by.0 - 1 → ⊥) → (by.0 == i + 1) ≡ false
    not_here out = ne_eqb by.0 (i + 1) (λ (same : by.0 ≡ i + 1). out (omega (arith, same)))

pub syncs_by : (w : Workload) (h : List Event) (e : Event) (by : Pid) (f : CallSync → CallSync) (old new : Syncs)
    → IsOfCall w h e by → new.files ≡ old.files → new.calls.items ≡ call_changed f (by.0 - 1) old.calls.items
    → new.admitted ≡ count_by has_file new.calls.items
    → ((x : CallSync) → slice_get old.calls.items (by.0 - 1) ≡ Some x → CallSyncIs w h by.0 x
    → CallSyncIs w (h ▹ e) by.0 (f x))
    → SyncsStand w old h → SyncsStand w new (h ▹ e)
syncs_by w h e by f old new of files calls admitted own stands = record {
  files_many = ap (λ v. length v.items) files ∙ stands.files_many;
  files_are = λ k x s there at. file_stays h e s x x refl (of.change s.0)
      (λ place long are. puts_quiet h e s place x.pages of.pages are)
      (stands.files_are k x s (ap (λ v. slice_get v.items k) (sym files) ∙ there) (sym (of.slots k) ∙ at));
  calls_many = ap length calls
      ∙ length-set old.calls.items (by.0 - 1) (f (slice_index_or old.calls.items (by.0 - 1) no_call))
      ∙ stands.calls_many;
  calls_are = one_call w h e by f old.calls.items new.calls.items of calls
      (λ x at. own x at (subst (λ n. CallSyncIs w h n x) (omega (arith, of.first))
      (stands.calls_are (by.0 - 1) x at))) stands.calls_are;
  admitted = admitted;
}

-- ---- counts
-- how many processes have a file, after one of them becomes another
count_set : (xs : List CallSync) (i : ℕ) (y : CallSync) → i < length xs
    → count_by has_file (slice_set xs i y) + cond (has_file (slice_index_or xs i no_call)) 1 0
    ≡ count_by has_file xs + cond (has_file y) 1 0
count_set xs i y within = sum_by-set (λ x. cond (has_file x) 1 0) xs i y no_call within

-- what is kept of a process
call_at : (w : Workload) (h : List Event) (by : Pid) (s : Syncs) → 1 ≤ by.0 → by.0 ≤ length w.procs
    → SyncsStand w s h → CallSyncIs w h by.0 (slice_index_or s.calls.items (by.0 - 1) no_call)
call_at w h by s first last stands =
    let was = some_at s.calls.items (by.0 - 1) (omega (arith, first, last, stands.calls_many))
    in let read = get_or_from_slice_get s.calls.items (by.0 - 1) was.0 no_call was.1
    in subst (λ x. CallSyncIs w h by.0 x) (sym read)
    (subst (λ n. CallSyncIs w h n was.0) (omega (arith, first)) (stands.calls_are (by.0 - 1) was.0 was.1))

-- ---- the file in a slot
pub slot_facts : (w : Workload) (h : List Event) (s : Serial) (k : Slot) → AreFiles w h → live_slot w h s ≡ Some k
    → (k.0 < 256) × (file_in_slot w h k.0 ≡ Some s)
slot_facts w h s k files is = by_test (is_live w h s.0) refl is
  where
    by_test : (b : Bool) → is_live w h s.0 ≡ b → (if b then Some (slot_of w h s) else None) ≡ Some k
        → (k.0 < 256) × (file_in_slot w h k.0 ≡ Some s)
    by_test true live at =
        let file = files.live s live
        in subst (λ (j : Slot). (j.0 < 256) × (file_in_slot w h j.0 ≡ Some s)) (same_Some (slot_of w h s) k at)
        (file.slot_within, file.in_slot)
    by_test false gone at = absurd (cc at)

-- the slot of a file, if it is there, is one of all
pub slot_within : (w : Workload) (h : List Event) (s : Serial) (o : Option Slot) (x : Syncs) → IsAccepted w
    → IsLegal w h → SyncsStand w x h → o ≡ live_slot w h s → IfSome o (λ k. k.0 < length x.files.items)
slot_within w h s None x accepted legal stands is = tt
slot_within w h s (Some k) x accepted legal stands is =
    let facts = slot_facts w h s k (files_are_in_order w h accepted legal) (sym is)
    in omega (arith, facts.0, stands.files_many)

file_at : (w : Workload) (h : List Event) (s : Serial) (k : Slot) (x : Syncs) → IsAccepted w → IsLegal w h
    → SyncsStand w x h → live_slot w h s ≡ Some k
    → FileSyncIs h s (slice_index_or x.files.items k.0 (new_file None))
file_at w h s k x accepted legal stands is =
    let facts = slot_facts w h s k (files_are_in_order w h accepted legal) is
    in let was = some_at x.files.items k.0 (omega (arith, facts.0, stands.files_many))
    in let read = get_or_from_slice_get x.files.items k.0 was.0 (new_file None) was.1
    in subst (λ y. FileSyncIs h s y) (sym read) (stands.files_are k.0 was.0 s was.1 facts.1)

-- ---- an admit
-- a call that isn't admitted is bound to no file
unbound : (w : Workload) (h : List Event) (p : ℕ) → is_admitted h p ≡ false → bound_file w h p ≡ None
unbound w [] p out = refl
unbound w (h ▹ Admit by) p out = by_test (by.0 == p) out (unbound w h p)
  where
    by_test : (b : Bool) → (b || is_admitted h p) ≡ false → (is_admitted h p ≡ false → bound_file w h p ≡ None)
        → (if b then file_for w h (call_of w h p) else bound_file w h p) ≡ None
    by_test true is rest = absurd (cc is)
    by_test false is rest = rest is
unbound w (h ▹ Ret by r) p out = by_test (by.0 == p) out (unbound w h p)
  where
    by_test : (b : Bool) → (not b && is_admitted h p) ≡ false → (is_admitted h p ≡ false → bound_file w h p ≡ None)
        → (if b then None else bound_file w h p) ≡ None
    by_test true is rest = refl
    by_test false is rest = rest is
unbound w (h ▹ e) p out = unbound w h p out

not_admitted : (w : Workload) (h : List Event) (by : Pid) → Came w h (Admit by) → is_admitted h by.0 ≡ false
not_admitted w h by (came_admit p c has in' out may) = out

-- the process that is admitted has had no file
idle_before : (w : Workload) (h : List Event) (by : Pid) → IsLegal w (h ▹ Admit by) → bound_file w h by.0 ≡ None
idle_before w h by legal = unbound w h by.0 (not_admitted w h by (came w h (Client by) (Admit by) legal.0))

none_of : (b : Bool) (o : Option Serial) → o ≡ None → (if b then o else None) ≡ None
none_of true o is = is
none_of false o is = refl

idle_call : (w : Workload) (h : List Event) (by : Pid) → IsLegal w (h ▹ Admit by) → synced_file w h by.0 ≡ None
idle_call w h by legal = none_of (is_sync (call_of w h by.0)) (bound_file w h by.0) (idle_before w h by legal)

-- a call finds a file that is there
found_live : (w : Workload) (h : List Event) (c : Option Call) (s : Serial) → AreFiles w h → file_for w h c ≡ Some s
    → is_live w h s.0 ≡ true
found_live w h None s files is = absurd (cc is)
found_live w h (Some (Creat name)) s files is = absurd (cc is)
found_live w h (Some c) s files is = (files.of_name (name_of c) s is).0

pub admit_live : (w : Workload) (h : List Event) (by : Pid) (s : Serial) → IsAccepted w → IsLegal w h
    → Some s ≡ file_for w h (call_of w h by.0) → live_slot w h s ≡ None → ⊥
admit_live w h by s accepted legal is gone =
    let live = found_live w h (call_of w h by.0) s (files_are_in_order w h accepted legal) (sym is)
    in let there : live_slot w h s ≡ Some (slot_of w h s) = ap (λ b. if b then Some (slot_of w h s) else None) live
    in absurd (cc (sym there ∙ gone))

of_admitted : (w : Workload) (h : List Event) (by : Pid) → Fits w h (Admit by) → IsOfCall w h (Admit by) by
of_admitted w h by fits = record {
  first = (fits.by by refl).first;
  pages = refl;
  slots = λ k. refl;
  change = λ n. refl;
  apart = λ p other. of_admit by other;
}

bound_now : (w : Workload) (h : List Event) (by : Pid)
    → bound_file w (h ▹ Admit by) by.0 ≡ file_for w h (call_of w h by.0)
bound_now w h by =
    ap (λ b. if b then file_for w h (call_of w h by.0) else bound_file w h by.0) (eq-eqb by.0 by.0 refl)

admit_now : (h : List Event) (by : Pid) → admit_place (h ▹ Admit by) by.0 ≡ length h
admit_now h by = ap (λ (b : Bool). elim b [ true ↦ length h | false ↦ admit_place h by.0 ]) (eq-eqb by.0 by.0 refl)

-- a call that is no fsync, or that is bound to no file
unsynced : (w : Workload) (h : List Event) (by : Pid)
    → (is_sync (call_of w h by.0) ≡ false) ⊎ (file_for w h (call_of w h by.0) ≡ None)
    → synced_file w (h ▹ Admit by) by.0 ≡ None
unsynced w h by (inl other) = ap (λ b. if b then bound_file w (h ▹ Admit by) by.0 else None) other
unsynced w h by (inr none) =
    none_of (is_sync (call_of w h by.0)) (bound_file w (h ▹ Admit by) by.0) (bound_now w h by ∙ none)

pub syncs_admit_other : (w : Workload) (h : List Event) (by : Pid) (s : Syncs) → IsAccepted w → Fits w h (Admit by)
    → (is_sync (call_of w h by.0) ≡ false) ⊎ (file_for w h (call_of w h by.0) ≡ None)
    → SyncsStand w s h → SyncsStand w s (h ▹ Admit by)
syncs_admit_other w h by s accepted fits none stands =
    syncs_by w h (Admit by) by (λ x. x) s s (of_admitted w h by fits) refl
    (sym (set-get_or s.calls.items (by.0 - 1) no_call)) stands.admitted
    (λ x at is.
    let file : x.file ≡ None = is.file ∙ idle_call w h by fits.legal
    in record {
      file = file ∙ sym (unsynced w h by none);
      pages = λ t some. absurd (cc (sym file ∙ some));
      awaited = is.awaited;
    }) stands

-- an fsync of a file that is there, with the puts of it so far
pub syncs_admit : (w : Workload) (h : List Event) (by : Pid) (s : Serial) (k : Slot) (old new : Syncs) → IsAccepted w
    → Fits w h (Admit by) → is_sync (call_of w h by.0) ≡ true → file_for w h (call_of w h by.0) ≡ Some s
    → live_slot w h s ≡ Some k → new.files ≡ old.files
    → new.calls.items ≡ call_changed
    (call_admitted s (slice_index_or old.files.items k.0 (new_file None)).pages) (by.0 - 1) old.calls.items
    → new.admitted ≡ old.admitted + 1 → SyncsStand w old h → SyncsStand w new (h ▹ Admit by)
syncs_admit w h by s k old new accepted fits sync finds at files calls admitted stands =
    syncs_by w h (Admit by) by (call_admitted s u) old new (of_admitted w h by fits) files calls counted
    (λ x there is. record {
      file = sym (ap (λ b. if b then bound_file w (h ▹ Admit by) by.0 else None) sync ∙ bound_now w h by ∙ finds);
      pages = λ t same.
          subst (λ n. PutsAre (h ▹ Admit by) t n u) (sym (admit_now h by))
          (subst (λ z. PutsAre (h ▹ Admit by) z (length h) u) (same_Some s t same)
          (puts_quiet h (Admit by) s (length h) u refl (file.pages (length h) (omega arith))));
      awaited = is.awaited;
    }) stands
  where
    u : Unwritten
    u = (slice_index_or old.files.items k.0 (new_file None)).pages

    file : FileSyncIs h s (slice_index_or old.files.items k.0 (new_file None))
    file = file_at w h s k old accepted fits.legal.1 stands at

    own : CallSyncIs w h by.0 (slice_index_or old.calls.items (by.0 - 1) no_call)
    own = call_at w h by old (fits.by by refl).first (fits.by by refl).last stands

    none : has_file (slice_index_or old.calls.items (by.0 - 1) no_call) ≡ false
    none = ap is_some (own.file ∙ idle_call w h by fits.legal)

    zero : ◌≡◌ {A = ℕ} (cond (has_file (slice_index_or old.calls.items (by.0 - 1) no_call)) 1 0) 0
    zero = ap (λ b. cond b 1 0) none

    counted : new.admitted ≡ count_by has_file new.calls.items
    counted =
        let more : count_by has_file (call_changed (call_admitted s u) (by.0 - 1) old.calls.items)
        + cond (has_file (slice_index_or old.calls.items (by.0 - 1) no_call)) 1 0
        ≡ count_by has_file old.calls.items + 1 = count_set old.calls.items (by.0 - 1)
        (call_admitted s u (slice_index_or old.calls.items (by.0 - 1) no_call))
        (omega (arith, (fits.by by refl).first, (fits.by by refl).last, stands.calls_many))
        in omega (arith, more, zero, admitted, stands.admitted, ap (count_by has_file) calls)

-- at most as many calls are admitted as there are processes
pub few_admitted : (w : Workload) (h : List Event) (e : Event) (s : Syncs) → Fits w h e → SyncsStand w s h
    → s.admitted ≤ 32
few_admitted w h e s fits stands =
    omega (arith, stands.admitted, count_by-le-length has_file s.calls.items, stands.calls_many, fits.procs)

-- ---- an fsync that is flushed
-- it is bound to a file that is there
pub record FlushedOf (w : Workload) (h : List Event) (by : Pid) : Type 0 where
  pub serial : Serial
  pub sync : is_sync (call_of w h by.0) ≡ true
  pub bound : bound_file w h by.0 ≡ Some serial
  pub live : is_live w h serial.0 ≡ true

flushed_came : (w : Workload) (h : List Event) (by : Pid) → Came w h (Flushed by) → FlushedOf w h by
flushed_came w h by (came_flushed p name serial working idle written) = record {
  serial = serial;
  sync = ap is_sync working.admitted.has.call;
  bound = bound_of w h (bound_file w h p.0) serial working.file;
  live = live_of w h (bound_file w h p.0) serial working.file;
}

pub flushed_of : (w : Workload) (h : List Event) (by : Pid) → IsLegal w (h ▹ Flushed by) → FlushedOf w h by
flushed_of w h by legal = flushed_came w h by (came w h (Client by) (Flushed by) legal.0)

-- what is kept of the process says so
pub flushed_file : (w : Workload) (h : List Event) (by : Pid) (s : Syncs) (o : Option Serial)
    → (fits : Fits w h (Flushed by)) → SyncsStand w s h → o ≡ (slice_index_or s.calls.items (by.0 - 1) no_call).file
    → o ≡ Some (flushed_of w h by fits.legal).serial
flushed_file w h by s o fits stands is =
    let of = flushed_of w h by fits.legal
    in is ∙ (call_at w h by s (fits.by by refl).first (fits.by by refl).last stands).file
    ∙ ap (λ b. if b then bound_file w h by.0 else None) of.sync ∙ of.bound

pub flushed_none : (w : Workload) (h : List Event) (by : Pid) (s : Syncs) → Fits w h (Flushed by) → SyncsStand w s h
    → None ≡ (slice_index_or s.calls.items (by.0 - 1) no_call).file → ⊥
flushed_none w h by s fits stands is = absurd (cc (flushed_file w h by s None fits stands is))

pub flushed_live : (w : Workload) (h : List Event) (by : Pid) (s : Syncs) (t : Serial) → Fits w h (Flushed by)
    → SyncsStand w s h → Some t ≡ (slice_index_or s.calls.items (by.0 - 1) no_call).file → live_slot w h t ≡ None → ⊥
flushed_live w h by s t fits stands is gone =
    let of = flushed_of w h by fits.legal
    in let same : t ≡ of.serial = same_Some t of.serial (flushed_file w h by s (Some t) fits stands is)
    in let live : is_live w h t.0 ≡ true = subst (λ (x : Serial). is_live w h x.0 ≡ true) (sym same) of.live
    in let there : live_slot w h t ≡ Some (slot_of w h t) = ap (λ b. if b then Some (slot_of w h t) else None) live
    in absurd (cc (sym there ∙ gone))

of_flush : (w : Workload) (h : List Event) (by : Pid) → Fits w h (Flushed by) → IsOfCall w h (Flushed by) by
of_flush w h by fits = record {
  first = (fits.by by refl).first;
  pages = refl;
  slots = λ k. refl;
  change = λ n. refl;
  apart = λ p other. of_flushed by other;
}

awaited_now : (w : Workload) (h : List Event) (by : Pid)
    → awaited_txn w (h ▹ Flushed by) by.0 ≡ change_txn_of h (bound_file w h by.0)
awaited_now w h by =
    ap (λ (b : Bool). elim b [ true ↦ change_txn_of h (bound_file w h by.0) | false ↦ awaited_txn w h by.0 ])
    (eq-eqb by.0 by.0 refl)

pub syncs_flushed : (w : Workload) (h : List Event) (by : Pid) (s : Serial) (k : Slot) (old new : Syncs)
    → IsAccepted w → Fits w h (Flushed by) → Some s ≡ (slice_index_or old.calls.items (by.0 - 1) no_call).file
    → live_slot w h s ≡ Some k → new.files ≡ old.files
    → new.calls.items ≡ call_changed
    (call_flushed (slice_index_or old.files.items k.0 (new_file None)).change) (by.0 - 1) old.calls.items
    → new.admitted ≡ old.admitted → SyncsStand w old h → SyncsStand w new (h ▹ Flushed by)
syncs_flushed w h by s k old new accepted fits is at files calls admitted stands =
    syncs_by w h (Flushed by) by (call_flushed t) old new (of_flush w h by fits) files calls counted
    (λ x there own. record {
      file = own.file;
      pages = λ f some. puts_quiet h (Flushed by) f (admit_place h by.0) x.pages refl (own.pages f some);
      awaited = file.change ∙ sym (awaited_now w h by ∙ ap (change_txn_of h) bound);
    }) stands
  where
    t : Option Txn
    t = (slice_index_or old.files.items k.0 (new_file None)).change

    file : FileSyncIs h s (slice_index_or old.files.items k.0 (new_file None))
    file = file_at w h s k old accepted fits.legal.1 stands at

    bound : bound_file w h by.0 ≡ Some s
    bound = (flushed_of w h by fits.legal).bound ∙ sym (flushed_file w h by old (Some s) fits stands is)

    counted : new.admitted ≡ count_by has_file new.calls.items
    counted =
        let same : count_by has_file (call_changed (call_flushed t) (by.0 - 1) old.calls.items)
        + cond (has_file (slice_index_or old.calls.items (by.0 - 1) no_call)) 1 0
        ≡ count_by has_file old.calls.items + cond (has_file (slice_index_or old.calls.items (by.0 - 1) no_call)) 1 0 =
        count_set old.calls.items (by.0 - 1) (call_flushed t (slice_index_or old.calls.items (by.0 - 1) no_call))
        (omega (arith, (fits.by by refl).first, (fits.by by refl).last, stands.calls_many))
        in omega (arith, same, admitted, stands.admitted, ap (count_by has_file) calls)

-- ---- a return
of_return : (w : Workload) (h : List Event) (by : Pid) (r : Reply) → Fits w h (Ret by r) → IsOfCall w h (Ret by r) by
of_return w h by r fits = record {
  first = (fits.by by refl).first;
  pages = refl;
  slots = λ k. refl;
  change = λ n. refl;
  apart = λ p other. of_ret by r other;
}

returned_none : (w : Workload) (h : List Event) (by : Pid) (r : Reply) → synced_file w (h ▹ Ret by r) by.0 ≡ None
returned_none w h by r =
    none_of (is_sync (call_of w (h ▹ Ret by r) by.0)) (bound_file w (h ▹ Ret by r) by.0)
    (ap (λ b. if b then None else bound_file w h by.0) (eq-eqb by.0 by.0 refl))

pub syncs_ret : (w : Workload) (h : List Event) (by : Pid) (r : Reply) (old new : Syncs) → IsAccepted w → IsLegal w h
    → Fits w h (Ret by r) → new.files ≡ old.files
    → new.calls.items ≡ call_changed call_returned (by.0 - 1) old.calls.items
    → new.admitted ≡ count_by has_file new.calls.items → SyncsStand w old h → SyncsStand w new (h ▹ Ret by r)
syncs_ret w h by r old new accepted legal fits files calls admitted stands =
    syncs_by w h (Ret by r) by call_returned old new (of_return w h by r fits) files calls admitted
    (λ x there is. record {
      file = sym (returned_none w h by r);
      pages = λ s some. absurd (cc some);
      awaited = is.awaited;
    }) stands
