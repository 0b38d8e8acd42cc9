-- What is kept of files and fsyncs after an event of a file.
use Rattle.std.proofs.Common.{◌≡◌, ℕ, ◌+◌, ◌<◌, ◌≤◌, ◌==◌, Bool, true, false, ◌&&◌, inl, inr, List, [], length, map, nat_lt, slice_get, Option, Some, None, is_some, refl, ap, sym, ◌∙◌, subst, arith, if◌then◌else◌}
use Rattle.std.specs.Prelude.{count_by, replicate, IfSome, ◌∷◌}
use Rattle.std.specs.List.{list_any}
use Rattle.std.proofs.lemmas.Bool.{eqb-true, eq-eqb, ne_eqb, lt-ltb, both_ways, false_from_ne_true}
use Rattle.std.proofs.lemmas.Option.{same_Some}
use Rattle.std.proofs.lemmas.List.{length-map, length-replicate}
use Rattle.split_types.specs.declared.ids.Pid.{Pid}
use Rattle.split_types.specs.declared.ids.Serial.{Serial}
use Rattle.split_types.specs.declared.ids.Slot.{Slot}
use Rattle.split_types.specs.declared.ids.Txn.{Txn}
use Rattle.split_types.specs.declared.ids.ReqId.{ReqId}
use Rattle.split_types.specs.declared.call.Reply.{Reply}
use Rattle.split_types.specs.declared.actor.Actor.{Actor}
use Rattle.split_types.specs.declared.buf.Buf.TheVariants.{Page}
use Rattle.split_types.specs.declared.request.Request.{Request}
use Rattle.split_types.specs.declared.workload.Workload.{Workload}
use Rattle.split_types.specs.declared.event.Event.{Event}
use Rattle.split_types.specs.declared.event.Event.TheVariants.{Admit, Make, Put, Drop, Flushed, Ret, Map, Add, Done}
use Rattle.split_types.specs.History.{◌▹◌}
use Rattle.split_types.specs.Hooks.{covers}
use Rattle.split_types.specs.OpenDirtyings.{open_at}
use Rattle.split_types.specs.Requests.{unfinished}
use Rattle.split_types.specs.Rounds.{next_txn}
use Rattle.split_types.specs.Files.{is_live}
use Rattle.split_types.specs.FileSlots.{file_in_slot, slot_of}
use Rattle.split_types.specs.FilesInOrder.{AreFiles, all_files}
use Rattle.split_types.specs.Pages.{is_put_since}
use Rattle.split_types.specs.Syncing.{change_txn}
use Rattle.split_types.specs.Accepted.{IsAccepted}
use Rattle.split_types.specs.Legal.{IsLegal}
use Rattle.split_types.proofs.Shared.{files_are_in_order, dirty_are_open, placed_file, kept}
use Rattle.split_core.specs.declared.note.syncs.Unwritten.{Unwritten}
use Rattle.split_core.specs.declared.note.syncs.FileSync.{FileSync}
use Rattle.split_core.specs.declared.note.syncs.CallSync.{CallSync}
use Rattle.split_core.specs.declared.note.syncs.Syncs.{Syncs}
use Rattle.split_core.specs.Fits.{Fits, DropFits}
use Rattle.split_core.specs.Syncs.{PutsAre, FileSyncIs, CallSyncIs, SyncsStand, no_pages, new_file, has_file, is_any_before, flying_puts, live_slot, file_changed, file_put, file_mapped, is_of, call_dropped}
use Rattle.split_core.proofs.JournalNotesBlame.{slot_free}
use Rattle.split_core.proofs.SyncFiles.{count_same}
use Rattle.split_core.proofs.SyncPages.{in_none}
use Rattle.split_core.proofs.SyncPuts.{unfinished_covers}
use Rattle.split_core.proofs.SyncPutNotes.{puts_quiet, puts_here, puts_other, puts_dropped, puts_kept}
use Rattle.split_core.proofs.SyncNotes.{files_over, files_long, calls_over, file_stays, call_stays, moves_calls, in_slot, off_slot, is_slot, syncs_quiet}
use Rattle.split_core.proofs.SyncNotes.IsApart.{of_none}

-- ---- where a file of an event stands
pub make_slot : (w : Workload) (h : List Event) (by : Pid) (slot : Slot) (serial : Serial) (s : Syncs)
    → Fits w h (Make by slot serial) → SyncsStand w s h → slot.0 < length s.files.items
make_slot w h by slot serial s fits stands =
    omega (arith, slot_free w h slot.0 fits.kind.slot_is, stands.files_many)

pub own_slot_within : (w : Workload) (h : List Event) (slot : Slot) (f : Serial) (s : Syncs) → IsAccepted w
    → IsLegal w h → DropFits w h slot f → SyncsStand w s h → slot.0 < length s.files.items
own_slot_within w h slot f s accepted legal fits stands =
    omega (
      arith,
      ap (λ (k : Slot). k.0) fits.slot_is,
      ((files_are_in_order w h accepted legal).live f fits.live).slot_within,
      stands.files_many,
    )

pub live_slot_within : (w : Workload) (h : List Event) (f : Serial) (s : Syncs) → IsAccepted w → IsLegal w h
    → SyncsStand w s h → IfSome (live_slot w h f) (λ k. k.0 < length s.files.items)
live_slot_within w h f s accepted legal stands = by_test (is_live w h f.0) refl
  where
    by_test : (b : Bool) → is_live w h f.0 ≡ b
        → IfSome (if b then Some (slot_of w h f) else None) (λ k. k.0 < length s.files.items)
    by_test true live =
        omega (arith, ((files_are_in_order w h accepted legal).live f live).slot_within, stands.files_many)
    by_test false gone = tt

-- ---- an event of one file, that leaves the fsyncs alone
syncs_file : (w : Workload) (h : List Event) (e : Event) (f : FileSync → FileSync) (at : Option Slot) (old new : Syncs)
    → new.files.items ≡ file_changed f at old.files.items → new.calls ≡ old.calls → new.admitted ≡ old.admitted
    → moves_calls e ≡ false
    → ((k : ℕ) (x : FileSync) (s : Serial) → slice_get old.files.items k ≡ Some x → is_slot at k ≡ true
    → file_in_slot w (h ▹ e) k ≡ Some s → FileSyncIs (h ▹ e) s (f x))
    → ((k : ℕ) (x : FileSync) (s : Serial) → slice_get old.files.items k ≡ Some x → is_slot at k ≡ false
    → file_in_slot w (h ▹ e) k ≡ Some s → FileSyncIs (h ▹ e) s x)
    → ((s : Serial) (place : ℕ) (u : Unwritten) → place ≤ length h → PutsAre h s place u → PutsAre (h ▹ e) s place u)
    → SyncsStand w old h → SyncsStand w new (h ▹ e)
syncs_file w h e f at old new files calls admitted quiet here others puts stands = record {
  files_many = files_long f at old.files.items new.files.items files ∙ stands.files_many;
  files_are = λ k x s there stood.
      files_over (λ j y. (t : Serial) → file_in_slot w (h ▹ e) j ≡ Some t → FileSyncIs (h ▹ e) t y)
      f at old.files.items new.files.items files (λ j y was is t in'. here j y t was is in')
      (λ j y was out t in'. others j y t was out in') k x there s stood;
  calls_many = ap (λ v. length v.items) calls ∙ stands.calls_many;
  calls_are = λ i x there. call_stays w h e (i + 1) x x (of_none e quiet) refl refl
      (λ s place most is are. puts s place x.pages most are)
      (stands.calls_are i x (ap (λ v. slice_get v.items i) (sym calls) ∙ there));
  admitted = admitted ∙ stands.admitted ∙ sym (ap (λ v. count_by has_file v.items) calls);
}

-- ---- a file whose number no file had before
nothing_open : (places : List ℕ) → nat_lt 0 (length places) ≡ false → places ≡ []
nothing_open [] none = refl
nothing_open (i ∷ places) none =
    absurd (both_ways (nat_lt 0 (length (i ∷ places))) none (lt-ltb 0 (length (i ∷ places)) (omega arith)))

new_open : (w : Workload) (h : List Event) (s : Serial) (g : ℕ) → IsAccepted w → IsLegal w h
    → all_files w h ≤ s.0 → open_at h (Page s g) ≡ []
new_open w h s g accepted legal new =
    nothing_open (open_at h (Page s g))
    (sym (dirty_are_open w h s g accepted legal) ∙ ap (λ b. b && is_put_since h (Page s g)) gone)
  where
    gone : is_live w h s.0 ≡ false
    gone = false_from_ne_true (is_live w h s.0)
        (λ live. omega (arith, new, ((files_are_in_order w h accepted legal).live s live).numbered))

new_flying : (w : Workload) (h : List Event) (s : Serial) (g at : ℕ) → IsAccepted w → IsLegal w h
    → all_files w h ≤ s.0 → is_any_before at (flying_puts h (Page s g)) ≡ false
new_flying w h s g at accepted legal new =
    unfinished_covers w h (Page s g) at accepted legal
    (false_from_ne_true (list_any (λ r. covers r (Page s g)) (unfinished h)) (λ any. busy any))
  where
    named : (t u : Serial) (j k : ℕ) → Page t j ≡ Page u k → t ≡ u
    named t u j k is = cc

    busy : list_any (λ r. covers r (Page s g)) (unfinished h) ≡ true → ⊥
    busy any =
        let file = placed_file w h (Page s g) accepted legal ((kept w h accepted legal).busy_placed (Page s g) any)
        in let same : s ≡ file.serial = named s file.serial g file.page file.is
        in omega (arith, new, subst (λ (t : Serial). t.0 < all_files w h) (sym same) file.file)

puts_new : (w : Workload) (h : List Event) (s : Serial) (at : ℕ) → IsAccepted w → IsLegal w h
    → all_files w h ≤ s.0 → PutsAre h s at no_pages
puts_new w h s at accepted legal new = record {
  dirty_long = length-replicate 1008 false;
  flying_long = length-replicate 1008 false;
  dirty_are = λ g. in_none g ∙ sym (ap (is_any_before at) (new_open w h s g accepted legal new));
  flying_are = λ g. in_none g ∙ sym (new_flying w h s g at accepted legal new);
}

-- ---- a make
-- the file in a slot, of which a file is made in this one or another
made_in : (made at : Option Serial) (f : Serial) (b : Bool) → b ≡ true → (if b then made else at) ≡ Some f
    → made ≡ Some f
made_in made at f true is there = there
made_in made at f false is there = absurd (cc is)

not_made_in : (made at : Option Serial) (f : Serial) (b : Bool) → b ≡ false → (if b then made else at) ≡ Some f
    → at ≡ Some f
not_made_in made at f true is there = absurd (cc is)
not_made_in made at f false is there = there

changed_here : (b : Bool) (new old : Option Txn) → b ≡ true → (elim b [ true ↦ new | false ↦ old ]) ≡ new
changed_here true new old is = refl
changed_here false new old is = absurd (cc is)

changed_other : (b : Bool) (new old : Option Txn) → b ≡ false → (elim b [ true ↦ new | false ↦ old ]) ≡ old
changed_other true new old is = absurd (cc is)
changed_other false new old is = refl

pub syncs_make : (w : Workload) (h : List Event) (by : Pid) (slot : Slot) (serial : Serial) (t : Txn) (old new : Syncs)
    → IsAccepted w → Fits w h (Make by slot serial) → t ≡ next_txn h
    → new.files.items ≡ file_changed (λ x. new_file (Some t)) (Some slot) old.files.items
    → new.calls ≡ old.calls → new.admitted ≡ old.admitted
    → SyncsStand w old h → SyncsStand w new (h ▹ Make by slot serial)
syncs_make w h by slot serial t old new accepted fits given files calls admitted stands =
    syncs_file w h (Make by slot serial) (λ x. new_file (Some t)) (Some slot) old new files calls admitted refl
    (λ k x s was here stood.
    let same : serial ≡ s = same_Some serial s (made_in (Some serial) (file_in_slot w h k) s (slot.0 == k) here stood)
    in subst (λ (u : Serial). FileSyncIs (h ▹ Make by slot serial) u (new_file (Some t))) same made)
    (λ k x s was out stood.
    let before = not_made_in (Some serial) (file_in_slot w h k) s (slot.0 == k) out stood
    in file_stays h (Make by slot serial) s x x refl
    (changed_other (serial.0 == s.0) (Some (next_txn h)) (change_txn h s.0)
    (ne_eqb serial.0 s.0 (λ (same : serial.0 ≡ s.0). older k s before same)))
    (λ place long are. puts_quiet h (Make by slot serial) s place x.pages refl are) (stands.files_are k x s was before))
    (λ s place u most are. puts_quiet h (Make by slot serial) s place u refl are) stands
  where
    number : all_files w h ≡ serial.0
    number = sym (ap (λ (s : Serial). s.0) fits.kind.serial_is)

    older : (j : ℕ) (g : Serial) → file_in_slot w h j ≡ Some g → serial.0 ≡ g.0 → ⊥
    older j g was_in same =
        let order = files_are_in_order w h accepted fits.legal.1
        in omega (arith, number, same, (order.live g (order.of_slot j g was_in).0).numbered)

    made : FileSyncIs (h ▹ Make by slot serial) serial (new_file (Some t))
    made = record {
      pages = λ at long. puts_quiet h (Make by slot serial) serial at no_pages refl
          (puts_new w h serial at accepted fits.legal.1 (omega (arith, number)));
      change = ap (λ n. Some n) given ∙ sym (changed_here (serial.0 == serial.0) (Some (next_txn h))
          (change_txn h serial.0) (eq-eqb serial.0 serial.0 refl));
    }

-- ---- a file that is there stands in its slot
own_slot : (w : Workload) (h : List Event) (slot : Slot) (s : Serial) → DropFits w h slot s
    → live_slot w h s ≡ Some slot
own_slot w h slot s fits = by_test (is_live w h s.0) fits.live
  where
    by_test : (b : Bool) → b ≡ true → (if b then Some (slot_of w h s) else None) ≡ Some slot
    by_test true is = ap (λ k. Some k) (sym fits.slot_is)
    by_test false is = absurd (cc is)

-- ---- a map
pub syncs_map : (w : Workload) (h : List Event) (slot : Slot) (s : Serial) (g n block : ℕ) (free : Bool) (size : ℕ)
    (t : Txn) (old new : Syncs) → IsAccepted w → Fits w h (Map slot s g n block free size) → t ≡ next_txn h
    → new.files.items ≡ file_changed (file_mapped t) (Some slot) old.files.items
    → new.calls ≡ old.calls → new.admitted ≡ old.admitted
    → SyncsStand w old h → SyncsStand w new (h ▹ Map slot s g n block free size)
syncs_map w h slot s g n block free size t old new accepted fits given files calls admitted stands =
    syncs_file w h (Map slot s g n block free size) (file_mapped t) (live_slot w h s) old new
    (files ∙ ap (λ o. file_changed (file_mapped t) o old.files.items) (sym (own_slot w h slot s fits.kind.file)))
    calls admitted refl
    (λ k x u was here stood.
    let same : s.0 ≡ u.0 = sym (in_slot w h s u k order stood here)
    in let is : FileSyncIs h u x = stands.files_are k x u was stood
    in record {
      pages = λ place long. puts_quiet h (Map slot s g n block free size) u place x.pages refl
          (is.pages place (omega (arith, long)));
      change = ap (λ n. Some n) given
          ∙ sym (changed_here (s.0 == u.0) (Some (next_txn h)) (change_txn h u.0) (eq-eqb s.0 u.0 same));
    })
    (λ k x u was out stood.
    file_stays h (Map slot s g n block free size) u x x refl
    (changed_other (s.0 == u.0) (Some (next_txn h)) (change_txn h u.0)
    (ne_eqb s.0 u.0 (λ (same : s.0 ≡ u.0). off_slot w h s u k order stood out (sym same))))
    (λ place long are. puts_quiet h (Map slot s g n block free size) u place x.pages refl are)
    (stands.files_are k x u was stood))
    (λ u place set most are. puts_quiet h (Map slot s g n block free size) u place set refl are) stands
  where
    order : AreFiles w h
    order = files_are_in_order w h accepted fits.legal.1

-- ---- a put
pub syncs_put : (w : Workload) (h : List Event) (by : Pid) (s : Serial) (g from to fill : ℕ) (old new : Syncs)
    → IsAccepted w → Fits w h (Put by s g from to fill)
    → new.files.items ≡ file_changed (file_put g) (live_slot w h s) old.files.items
    → new.calls ≡ old.calls → new.admitted ≡ old.admitted
    → SyncsStand w old h → SyncsStand w new (h ▹ Put by s g from to fill)
syncs_put w h by s g from to fill old new accepted fits files calls admitted stands =
    syncs_file w h (Put by s g from to fill) (file_put g) (live_slot w h s) old new files calls admitted refl
    (λ k x u was here stood.
    file_stays h (Put by s g from to fill) u x (file_put g x) refl refl
    (λ place long are. puts_here h by s g from to fill u place x.pages (sym (in_slot w h s u k order stood here)) long
    fits.kind.page.page are)
    (stands.files_are k x u was stood))
    (λ k x u was out stood.
    file_stays h (Put by s g from to fill) u x x refl refl
    (λ place long are. puts_other h by s g from to fill u place x.pages
    (inl (λ (same : s.0 ≡ u.0). off_slot w h s u k order stood out (sym same))) are)
    (stands.files_are k x u was stood))
    (λ u place set most are. puts_other h by s g from to fill u place set (inr most) are) stands
  where
    order : AreFiles w h
    order = files_are_in_order w h accepted fits.legal.1

-- ---- a drop
dropped_same : (s : Serial) (x : CallSync) → has_file (call_dropped s x) ≡ has_file x
dropped_same s x = by_test (is_of s x)
  where
    by_test : (b : Bool)
        → is_some (if b then record x { pages = record x.pages { dirty = replicate 1008 false } } else x).file
        ≡ is_some x.file
    by_test true = refl
    by_test false = refl

call_drop : (w : Workload) (h : List Event) (by : Pid) (slot : Slot) (s : Serial) (i : ℕ) (x : CallSync)
    → CallSyncIs w h i x → CallSyncIs w (h ▹ Drop by slot s) i (call_dropped s x)
call_drop w h by slot s i x was = by_test (is_of s x) refl
  where
    file_is : (o : Option Serial) (t : Serial) → o ≡ Some t
        → ◌≡◌ {A = Bool} (elim o [ None ↦ false | Some f ↦ f.0 == s.0 ]) (t.0 == s.0)
    file_is o t at = ap (λ (q : Option Serial). elim q [ None ↦ false | Some f ↦ f.0 == s.0 ]) at

    by_test : (b : Bool) → is_of s x ≡ b
        → CallSyncIs w (h ▹ Drop by slot s) i
        (if b then record x { pages = record x.pages { dirty = replicate 1008 false } } else x)
    by_test true of =
        call_stays w h (Drop by slot s) i x (record x { pages = record x.pages { dirty = replicate 1008 false } })
        (of_none (Drop by slot s) refl) refl refl
        (λ t at most file are.
        let same : t.0 ≡ s.0 = eqb-true t.0 s.0 (sym (file_is x.file t file) ∙ of)
        in puts_dropped h by slot s t at x.pages (sym same) are) was
    by_test false of = call_stays w h (Drop by slot s) i x x (of_none (Drop by slot s) refl) refl refl
        (λ t at most file are.
        puts_kept h by slot s t at x.pages
        (λ same. both_ways (is_of s x) of (file_is x.file t file ∙ eq-eqb t.0 s.0 (sym same))) are) was

pub syncs_drop : (w : Workload) (h : List Event) (by : Pid) (slot : Slot) (s : Serial) (old new : Syncs)
    → IsAccepted w → Fits w h (Drop by slot s) → new.files ≡ old.files
    → new.calls.items ≡ map (call_dropped s) old.calls.items → new.admitted ≡ old.admitted
    → SyncsStand w old h → SyncsStand w new (h ▹ Drop by slot s)
syncs_drop w h by slot s old new accepted fits files calls admitted stands = record {
  files_many = ap (λ v. length v.items) files ∙ stands.files_many;
  files_are = λ k x f there at.
      let left = left_in (file_in_slot w h k) f (slot.0 == k) at
      in file_stays h (Drop by slot s) f x x refl refl
      (λ place long are. puts_kept h by slot s f place x.pages
      (λ same. off_slot w h s f k order left.1
      (ap (λ o. is_slot o k) (own_slot w h slot s fits.kind) ∙ left.0) (sym same)) are)
      (stands.files_are k x f (ap (λ v. slice_get v.items k) (sym files) ∙ there) left.1);
  calls_many = ap length calls ∙ length-map old.calls.items (call_dropped s) ∙ stands.calls_many;
  calls_are = λ i x there.
      calls_over (λ j y. CallSyncIs w (h ▹ Drop by slot s) (j + 1) y) (call_dropped s) old.calls.items new.calls.items
      calls (λ j y was. call_drop w h by slot s (j + 1) y (stands.calls_are j y was))
      i x there;
  admitted = admitted ∙ stands.admitted
      ∙ sym (ap (count_by has_file) calls
      ∙ count_same has_file (call_dropped s) old.calls.items (dropped_same s));
}
  where
    order : AreFiles w h
    order = files_are_in_order w h accepted fits.legal.1

    left_in : (o : Option Serial) (f : Serial) (b : Bool) → (if b then None else o) ≡ Some f
        → (b ≡ false) × (o ≡ Some f)
    left_in o f true at = absurd (cc at)
    left_in o f false at = (refl, at)

-- ---- an event that leaves this part alone
pub syncs_other : (w : Workload) (h : List Event) (e : Event) (s : Syncs)
    → ((by : Pid) (slot : Slot) (serial : Serial) → e ≡ Make by slot serial → ⊥)
    → ((slot : Slot) (f : Serial) (g n block : ℕ) (new : Bool) (size : ℕ) → e ≡ Map slot f g n block new size → ⊥)
    → ((by : Pid) (f : Serial) (g from to fill : ℕ) → e ≡ Put by f g from to fill → ⊥)
    → ((by : Pid) (slot : Slot) (serial : Serial) → e ≡ Drop by slot serial → ⊥)
    → ((by : Pid) → e ≡ Admit by → ⊥)
    → ((by : Pid) → e ≡ Flushed by → ⊥)
    → ((by : Pid) (r : Reply) → e ≡ Ret by r → ⊥)
    → ((by : Actor) (r : Request) → e ≡ Add by r → ⊥)
    → ((k : ℕ) (id : ReqId) (ok : Bool) → e ≡ Done k id ok → ⊥)
    → SyncsStand w s h → SyncsStand w s (h ▹ e)
syncs_other w h (Make by slot serial) s make mapped put drop admit flushed ret add done stands =
    absurd (make by slot serial refl)
syncs_other w h (Map slot f g n block new size) s make mapped put drop admit flushed ret add done stands =
    absurd (mapped slot f g n block new size refl)
syncs_other w h (Put by f g from to fill) s make mapped put drop admit flushed ret add done stands =
    absurd (put by f g from to fill refl)
syncs_other w h (Drop by slot serial) s make mapped put drop admit flushed ret add done stands =
    absurd (drop by slot serial refl)
syncs_other w h (Admit by) s make mapped put drop admit flushed ret add done stands = absurd (admit by refl)
syncs_other w h (Flushed by) s make mapped put drop admit flushed ret add done stands = absurd (flushed by refl)
syncs_other w h (Ret by r) s make mapped put drop admit flushed ret add done stands = absurd (ret by r refl)
syncs_other w h (Add by r) s make mapped put drop admit flushed ret add done stands = absurd (add by r refl)
syncs_other w h (Done k id ok) s make mapped put drop admit flushed ret add done stands = absurd (done k id ok refl)
syncs_other w h e s make mapped put drop admit flushed ret add done stands =
    syncs_quiet w h e s refl refl (λ k. refl) (λ n. refl) stands
