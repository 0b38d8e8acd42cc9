-- What is kept of files and fsyncs after one event more.
use Rattle.std.proofs.Common.{◌≡◌, ℕ, ◌+◌, ◌<◌, ◌≤◌, ◌==◌, Bool, true, false, inl, inr, List, [], length, map, slice_get, slice_index_or, Option, Some, None, refl, ap, sym, ◌∙◌, subst, arith, if◌then◌else◌}
use Rattle.std.specs.Prelude.{count_by, is_some, replicate, ◌∷◌}
use Rattle.std.proofs.lemmas.Bool.{cases_Bool, eqb-true, eq-eqb, ne_eqb, both_ways}
use Rattle.std.proofs.lemmas.Option.{get_or_from_slice_get, same_Some}
use Rattle.std.proofs.lemmas.List.{length-set}
use Rattle.split_types.specs.declared.ids.Pid.{Pid}
use Rattle.split_types.specs.declared.ids.Serial.{Serial}
use Rattle.split_types.specs.declared.ids.Slot.{Slot}
use Rattle.split_types.specs.declared.call.Reply.{Reply}
use Rattle.split_types.specs.declared.workload.Workload.{Workload}
use Rattle.split_types.specs.declared.event.Event.{Event}
use Rattle.split_types.specs.declared.event.Event.TheVariants.{Admit, Flushed, Ret}
use Rattle.split_types.specs.History.{◌▹◌}
use Rattle.split_types.specs.Files.{is_live, bound_file}
use Rattle.split_types.specs.FileSlots.{file_in_slot, slot_of}
use Rattle.split_types.specs.FilesInOrder.{AreFiles}
use Rattle.split_types.specs.Syncing.{admit_place, change_txn, awaited_txn}
use Rattle.split_types.proofs.Shared.{some_at, map_there, count_yes, count_no}
use Rattle.split_core.specs.declared.note.syncs.FileSync.{FileSync}
use Rattle.split_core.specs.declared.note.syncs.CallSync.{CallSync}
use Rattle.split_core.specs.declared.note.syncs.Syncs.{Syncs}
use Rattle.split_core.specs.Syncs.{PutsAre, FileSyncIs, CallSyncIs, SyncsStand, synced_file, has_file, live_slot, new_file, file_changed, is_of, call_taken, call_done, call_dropped, pages_taken, pages_done}
use Rattle.split_core.proofs.SyncFiles.{set_there}
use Rattle.split_core.proofs.SyncPuts.{moves_pages}
use Rattle.split_core.proofs.SyncPutNotes.{puts_quiet}

-- ---- events of calls
-- an event is of a call: an admit, a flush, or a return
abbrev pub moves_calls : Event → Bool
moves_calls (Admit by) = true
moves_calls (Flushed by) = true
moves_calls (Ret by r) = true
moves_calls e = false

pub place_most : (h : List Event) (p : ℕ) → admit_place h p ≤ length h
place_most [] p = omega arith
place_most (h ▹ Admit by) p = by_test (by.0 == p) (place_most h p)
  where
    by_test : (b : Bool) → admit_place h p ≤ length h
        → (elim b [ true ↦ length h | false ↦ admit_place h p ]) ≤ length (h ▹ Admit by)
    by_test true most = omega arith
    by_test false most = omega (arith, most)
place_most (h ▹ e) p = omega (arith, place_most h p)

-- an event is of no call, or of one of another process
pub data IsApart (p : ℕ) : Event → Type 0 where
  of_none : (e : Event) → moves_calls e ≡ false → IsApart p e
  of_admit : (by : Pid) → (by.0 == p) ≡ false → IsApart p (Admit by)
  of_flushed : (by : Pid) → (by.0 == p) ≡ false → IsApart p (Flushed by)
  of_ret : (by : Pid) (r : Reply) → (by.0 == p) ≡ false → IsApart p (Ret by r)

-- what a history says of the fsync of a process
pub record IsSameCall (w : Workload) (h : List Event) (e : Event) (p : ℕ) : Type 0 where
  pub file : synced_file w (h ▹ e) p ≡ synced_file w h p
  pub place : admit_place (h ▹ e) p ≡ admit_place h p
  pub awaited : awaited_txn w (h ▹ e) p ≡ awaited_txn w h p

quiet_call : (w : Workload) (h : List Event) (e : Event) (p : ℕ) → moves_calls e ≡ false → IsSameCall w h e p
quiet_call w h (Admit by) p quiet = absurd (cc quiet)
quiet_call w h (Flushed by) p quiet = absurd (cc quiet)
quiet_call w h (Ret by r) p quiet = absurd (cc quiet)
quiet_call w h e p quiet = record { file = refl; place = refl; awaited = refl }

pub same_call : (w : Workload) (h : List Event) (e : Event) (p : ℕ) → IsApart p e → IsSameCall w h e p
same_call w h e p (of_none f quiet) = quiet_call w h f p quiet
same_call w h e p (of_admit by other) =
    record { file = rw (other, bound_file) refl; place = rw (other, admit_place) refl; awaited = refl }
same_call w h e p (of_flushed by other) = record { file = refl; place = refl; awaited = rw (other, awaited_txn) refl }
same_call w h e p (of_ret by r other) =
    record { file = rw (other, bound_file) refl; place = refl; awaited = refl }

-- the fsync of a process that the event leaves alone
pub call_stays : (w : Workload) (h : List Event) (e : Event) (p : ℕ) (x y : CallSync) → IsApart p e
    → y.file ≡ x.file → y.awaited ≡ x.awaited
    → ((s : Serial) (at : ℕ) → at ≤ length h → x.file ≡ Some s → PutsAre h s at x.pages → PutsAre (h ▹ e) s at y.pages)
    → CallSyncIs w h p x → CallSyncIs w (h ▹ e) p y
call_stays w h e p x y apart file awaited puts is =
    let same = same_call w h e p apart
    in record {
      file = file ∙ is.file ∙ sym same.file;
      pages = λ s at. subst (λ n. PutsAre (h ▹ e) s n y.pages) (sym same.place)
          (puts s (admit_place h p) (place_most h p) (sym file ∙ at) (is.pages s (sym file ∙ at)));
      awaited = awaited ∙ is.awaited ∙ sym same.awaited;
    }

-- ---- files
-- a file that the event leaves alone
pub file_stays : (h : List Event) (e : Event) (s : Serial) (x y : FileSync) → y.change ≡ x.change
    → change_txn (h ▹ e) s.0 ≡ change_txn h s.0
    → ((at : ℕ) → length h < at → PutsAre h s at x.pages → PutsAre (h ▹ e) s at y.pages)
    → FileSyncIs h s x → FileSyncIs (h ▹ e) s y
file_stays h e s x y change same puts is = record {
  pages = λ at long. puts at (omega (arith, long)) (is.pages at (omega (arith, long)));
  change = change ∙ is.change ∙ sym same;
}

-- the slot, if there is one, is this
abbrev pub is_slot : Option Slot → ℕ → Bool
is_slot None k = false
is_slot (Some s) k = s.0 == k

pub files_over : (P : ℕ → FileSync → Type 0) (f : FileSync → FileSync) (at : Option Slot) (old new : List FileSync)
    → new ≡ file_changed f at old
    → ((k : ℕ) (x : FileSync) → slice_get old k ≡ Some x → is_slot at k ≡ true → P k (f x))
    → ((k : ℕ) (x : FileSync) → slice_get old k ≡ Some x → is_slot at k ≡ false → P k x)
    → (k : ℕ) (y : FileSync) → slice_get new k ≡ Some y → P k y
files_over P f None old new is here others k y there = others k y (ap (λ l. slice_get l k) (sym is) ∙ there) refl
files_over P f (Some s) old new is here others k y there =
    elim (set_there old s.0 k (f (slice_index_or old s.0 (new_file None))) y (ap (λ l. slice_get l k) (sym is) ∙ there)) [
      | inl one ↦
          (let was = some_at old k (omega (arith, one.0, one.2))
          in let read : slice_index_or old s.0 (new_file None) ≡ was.0 =
          ap (λ n. slice_index_or old n (new_file None)) (sym one.0)
          ∙ get_or_from_slice_get old k was.0 (new_file None) was.1
          in subst (P k) (ap f (sym read) ∙ sym one.1) (here k was.0 was.1 (eq-eqb s.0 k (sym one.0))))
      | inr other ↦ others k y other.1 (ne_eqb s.0 k (λ (same : s.0 ≡ k). other.0 (sym same)))
    ]

pub files_long : (f : FileSync → FileSync) (at : Option Slot) (old new : List FileSync) → new ≡ file_changed f at old
    → length new ≡ length old
files_long f None old new is = ap length is
files_long f (Some s) old new is = ap length is ∙ length-set old s.0 (f (slice_index_or old s.0 (new_file None)))

-- the file in the slot of a file that is there is that one, and the others aren't
pub in_slot : (w : Workload) (h : List Event) (s t : Serial) (k : ℕ) → AreFiles w h → file_in_slot w h k ≡ Some t
    → is_slot (live_slot w h s) k ≡ true → t.0 ≡ s.0
in_slot w h s t k files at is = by_test (is_live w h s.0) refl is
  where
    by_test : (b : Bool) → is_live w h s.0 ≡ b → is_slot (if b then Some (slot_of w h s) else None) k ≡ true
        → t.0 ≡ s.0
    by_test true live same =
        let place : (slot_of w h s).0 ≡ k = eqb-true (slot_of w h s).0 k same
        in let both : Some s ≡ Some t = sym (files.live s live).in_slot ∙ ap (file_in_slot w h) place ∙ at
        in sym (ap (λ (x : Serial). x.0) (same_Some s t both))
    by_test false gone same = absurd (cc same)

pub off_slot : (w : Workload) (h : List Event) (s t : Serial) (k : ℕ) → AreFiles w h → file_in_slot w h k ≡ Some t
    → is_slot (live_slot w h s) k ≡ false → t.0 ≡ s.0 → ⊥
off_slot w h s t k files at out same =
    let of = files.of_slot k t at
    in let live : is_live w h s.0 ≡ true = subst (λ n. is_live w h n ≡ true) same of.0
    in let place : (slot_of w h s).0 ≡ k = subst (λ n. (slot_of w h (record { 0 = n })).0 ≡ k) same of.1
    in both_ways (is_slot (live_slot w h s) k) out
    (ap (λ b. is_slot (if b then Some (slot_of w h s) else None) k) live ∙ eq-eqb (slot_of w h s).0 k place)

-- ---- all fsyncs, changed alike
pub calls_over : (P : ℕ → CallSync → Type 0) (f : CallSync → CallSync) (old new : List CallSync) → new ≡ map f old
    → ((i : ℕ) (x : CallSync) → slice_get old i ≡ Some x → P i (f x))
    → (i : ℕ) (y : CallSync) → slice_get new i ≡ Some y → P i y
calls_over P f old new is each i y there =
    let was = map_there f old i y (ap (λ l. slice_get l i) (sym is) ∙ there)
    in subst (P i) was.2 (each i was.0 was.1)

-- where no process has an fsync, nothing is changed that is of one alone
pub map_none : (f : CallSync → CallSync) (xs : List CallSync) → count_by has_file xs ≡ 0
    → ((x : CallSync) → has_file x ≡ false → f x ≡ x) → map f xs ≡ xs
map_none f [] none same = refl
map_none f (x ∷ xs) none same = elim (cases_Bool (has_file x)) [
  | inl is ↦ absurd (omega (arith, none, count_yes has_file x xs is))
  | inr out ↦
      ap (λ y. y ∷ map f xs) (same x out)
      ∙ ap (λ l. x ∷ l) (map_none f xs (omega (arith, none, count_no has_file x xs out)) same)
]

pub not_of : (s : Serial) (x : CallSync) → has_file x ≡ false → is_of s x ≡ false
not_of s x out = by_file x.file out
  where
    by_file : (o : Option Serial) → is_some o ≡ false → ◌≡◌ {A = Bool} (elim o [ None ↦ false | Some f ↦ f.0 == s.0 ]) false
    by_file None is = refl
    by_file (Some f) is = absurd (cc)

pub untaken : (s : Serial) (g n : ℕ) (x : CallSync) → has_file x ≡ false → call_taken s g n x ≡ x
untaken s g n x out = ap (λ b. if b then record x { pages = pages_taken g n x.pages } else x) (not_of s x out)

pub undone : (s : Serial) (g n : ℕ) (x : CallSync) → has_file x ≡ false → call_done s g n x ≡ x
undone s g n x out = ap (λ b. if b then record x { pages = pages_done g n x.pages } else x) (not_of s x out)

pub undropped : (s : Serial) (x : CallSync) → has_file x ≡ false → call_dropped s x ≡ x
undropped s x out =
    ap (λ b. if b then record x { pages = record x.pages { dirty = replicate 1008 false } } else x) (not_of s x out)

-- ---- an event of no part
pub syncs_quiet : (w : Workload) (h : List Event) (e : Event) (s : Syncs) → moves_pages e ≡ false
    → moves_calls e ≡ false → ((k : ℕ) → file_in_slot w (h ▹ e) k ≡ file_in_slot w h k)
    → ((n : ℕ) → change_txn (h ▹ e) n ≡ change_txn h n) → SyncsStand w s h → SyncsStand w s (h ▹ e)
syncs_quiet w h e s pages calls slots change stands = record {
  files_many = stands.files_many;
  files_are = λ k x f there at. file_stays h e f x x refl (change f.0)
      (λ place long are. puts_quiet h e f place x.pages pages are) (stands.files_are k x f there (sym (slots k) ∙ at));
  calls_many = stands.calls_many;
  calls_are = λ i x there. call_stays w h e (i + 1) x x (of_none e calls) refl refl
      (λ t place most is are. puts_quiet h e t place x.pages pages are) (stands.calls_are i x there);
  admitted = stands.admitted;
}
