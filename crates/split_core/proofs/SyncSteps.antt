-- What is kept of files and fsyncs before any event, and after a request is added.
use Rattle.std.proofs.Common.{◌≡◌, ℕ, ◌+◌, ◌≤◌, ◌==◌, Bool, true, false, List, [], length, map, slice_get, Option, Some, None, refl, ap, sym, ◌∙◌, subst, arith, cond, if◌then◌else◌}
use Rattle.std.specs.Prelude.{count_by, replicate, is_some}
use Rattle.std.proofs.lemmas.Bool.{eqb-true, eq-eqb, both_ways}
use Rattle.std.proofs.lemmas.Option.{slice_get_within, get_or_from_slice_get}
use Rattle.std.proofs.lemmas.List.{length-replicate, get_or-replicate, length-map}
use Rattle.std.proofs.lemmas.List.Folds.{sum_by-replicate}
use Rattle.split_types.specs.declared.ids.Serial.{Serial}
use Rattle.split_types.specs.declared.actor.Actor.{Actor}
use Rattle.split_types.specs.declared.buf.Buf.TheVariants.{Page}
use Rattle.split_types.specs.declared.request.ReqKind.TheVariants.{Pages}
use Rattle.split_types.specs.declared.request.Request.{Request}
use Rattle.split_types.specs.declared.workload.Workload.{Workload}
use Rattle.split_types.specs.declared.event.Event.{Event}
use Rattle.split_types.specs.declared.event.Event.TheVariants.{Add}
use Rattle.split_types.specs.History.{◌▹◌}
use Rattle.split_types.specs.Hooks.{covers}
use Rattle.split_types.specs.Calls.{call_of}
use Rattle.split_types.specs.FileSlots.{file_in_slot}
use Rattle.split_types.specs.Accepted.{IsAccepted}
use Rattle.split_types.specs.Legal.{IsLegal}
use Rattle.split_types.proofs.Shared.{files_are_in_order}
use Rattle.split_core.specs.declared.note.syncs.CallSync.{CallSync}
use Rattle.split_core.specs.declared.note.syncs.Syncs.{Syncs}
use Rattle.split_core.specs.Givens.{is_sync}
use Rattle.split_core.specs.Syncs.{PutsAre, FileSyncIs, CallSyncIs, SyncsStand, no_pages, no_call, new_file, has_file, live_slot, file_changed, file_taken, is_of, call_taken, pages_taken}
use Rattle.split_core.proofs.SyncFiles.{count_same}
use Rattle.split_core.proofs.SyncPages.{in_none}
use Rattle.split_core.proofs.SyncPutNotes.{puts_taken, puts_uncovered, covers_other}
use Rattle.split_core.proofs.SyncNotes.{files_over, files_long, calls_over, file_stays, call_stays, in_slot, off_slot}
use Rattle.split_core.proofs.SyncNotes.IsApart.{of_none}

-- ---- before any event
puts_none : (s : Serial) (at : ℕ) → PutsAre [] s at no_pages
puts_none s at = record {
  dirty_long = length-replicate 1008 false;
  flying_long = length-replicate 1008 false;
  dirty_are = λ g. in_none g;
  flying_are = λ g. in_none g;
}

-- an element of a list of alike ones
alike : {X : Type 0} (n i : ℕ) (x y : X) → slice_get (replicate n x) i ≡ Some y → x ≡ y
alike n i x y at =
    sym (get_or-replicate n i x x (omega (arith, slice_get_within (replicate n x) i y at, length-replicate n x)))
    ∙ get_or_from_slice_get (replicate n x) i y x at

none_bound : (b : Bool) → ◌≡◌ {A = Option Serial} (if b then None else None) None
none_bound true = refl
none_bound false = refl

none_have : (n : ℕ) → count_by has_file (replicate n no_call) ≡ 0
none_have n = sum_by-replicate (λ x. cond (has_file x) 1 0) n no_call ∙ omega arith

pub syncs_none : (w : Workload) (s : Syncs) → s.files.items ≡ replicate 256 (new_file None)
    → s.calls.items ≡ replicate (length w.procs) no_call → s.admitted ≡ 0 → SyncsStand w s []
syncs_none w s files calls admitted = record {
  files_many = ap length files ∙ length-replicate 256 (new_file None);
  files_are = λ k x f there at.
      subst (FileSyncIs [] f) (alike 256 k (new_file None) x (ap (λ l. slice_get l k) (sym files) ∙ there))
      (record { pages = λ place long. puts_none f place; change = refl });
  calls_many = ap length calls ∙ length-replicate (length w.procs) no_call;
  calls_are = λ i x there.
      subst (CallSyncIs w [] (i + 1)) (alike (length w.procs) i no_call x (ap (λ l. slice_get l i) (sym calls) ∙ there))
      (record {
        file = sym (none_bound (is_sync (call_of w [] (i + 1))));
        pages = λ t at. absurd (cc);
        awaited = refl;
      });
  admitted = admitted ∙ sym (ap (count_by has_file) calls ∙ none_have (length w.procs));
}

-- ---- a request that is added
taken_same : (s : Serial) (g n : ℕ) (x : CallSync) → has_file (call_taken s g n x) ≡ has_file x
taken_same s g n x = by_test (is_of s x)
  where
    by_test : (b : Bool) → is_some (if b then record x { pages = pages_taken g n x.pages } else x).file ≡ is_some x.file
    by_test true = refl
    by_test false = refl

call_take : (w : Workload) (h : List Event) (by : Actor) (r : Request) (s : Serial) (p i : ℕ) (x : CallSync)
    → IsAccepted w → IsLegal w (h ▹ Add by r) → r.kind ≡ Pages s p → p + r.n ≤ 1008
    → CallSyncIs w h i x → CallSyncIs w (h ▹ Add by r) i (call_taken s p r.n x)
call_take w h by r s p i x accepted legal is within was = by_test (is_of s x) refl
  where
    file_is : (o : Option Serial) (t : Serial) → o ≡ Some t
        → ◌≡◌ {A = Bool} (elim o [ None ↦ false | Some f ↦ f.0 == s.0 ]) (t.0 == s.0)
    file_is o t at = ap (λ (q : Option Serial). elim q [ None ↦ false | Some f ↦ f.0 == s.0 ]) at

    by_test : (b : Bool) → is_of s x ≡ b
        → CallSyncIs w (h ▹ Add by r) i (if b then record x { pages = pages_taken p r.n x.pages } else x)
    by_test true of = call_stays w h (Add by r) i x (record x { pages = pages_taken p r.n x.pages })
        (of_none (Add by r) refl) refl refl
        (λ t at most file are.
        let same : t.0 ≡ s.0 = eqb-true t.0 s.0 (sym (file_is x.file t file) ∙ of)
        in puts_taken w h by r t p at x.pages accepted legal
        (is ∙ ap (λ n. Pages (record { 0 = n }) p) (sym same)) within are) was
    by_test false of = call_stays w h (Add by r) i x x (of_none (Add by r) refl) refl refl
        (λ t at most file are.
        puts_uncovered w h by r t at x.pages accepted legal
        (λ g. covers_other r s t p g is (λ same. both_ways (is_of s x) of
        (file_is x.file t file ∙ eq-eqb t.0 s.0 (sym same)))) are) was

pub syncs_add : (w : Workload) (h : List Event) (by : Actor) (r : Request) (s : Serial) (p : ℕ) (old new : Syncs)
    → IsAccepted w → IsLegal w (h ▹ Add by r) → r.kind ≡ Pages s p → p + r.n ≤ 1008
    → new.files.items ≡ file_changed (file_taken p r.n) (live_slot w h s) old.files.items
    → new.calls.items ≡ map (call_taken s p r.n) old.calls.items → new.admitted ≡ old.admitted
    → SyncsStand w old h → SyncsStand w new (h ▹ Add by r)
syncs_add w h by r s p old new accepted legal is within files calls admitted stands = record {
  files_many = files_long (file_taken p r.n) (live_slot w h s) old.files.items new.files.items files ∙ stands.files_many;
  files_are = λ k x f there at.
      files_over (λ j y. (t : Serial) → file_in_slot w h j ≡ Some t → FileSyncIs (h ▹ Add by r) t y)
      (file_taken p r.n) (live_slot w h s) old.files.items new.files.items files
      (λ j y was here t in'.
      let same : t.0 ≡ s.0 = in_slot w h s t j (files_are_in_order w h accepted legal.1) in' here
      in file_stays h (Add by r) t y (file_taken p r.n y) refl refl
      (λ place long are. puts_taken w h by r t p place y.pages accepted legal
      (is ∙ ap (λ n. Pages (record { 0 = n }) p) (sym same)) within are)
      (stands.files_are j y t was in'))
      (λ j y was out t in'.
      file_stays h (Add by r) t y y refl refl
      (λ place long are. puts_uncovered w h by r t place y.pages accepted legal
      (λ g. covers_other r s t p g is (λ same.
      off_slot w h s t j (files_are_in_order w h accepted legal.1) in' out (sym same))) are)
      (stands.files_are j y t was in'))
      k x there f at;
  calls_many = ap length calls ∙ length-map old.calls.items (call_taken s p r.n) ∙ stands.calls_many;
  calls_are = λ i x there.
      calls_over (λ j y. CallSyncIs w (h ▹ Add by r) (j + 1) y) (call_taken s p r.n) old.calls.items new.calls.items
      calls (λ j y was. call_take w h by r s p (j + 1) y accepted legal is within (stands.calls_are j y was))
      i x there;
  admitted = admitted ∙ stands.admitted
      ∙ sym (ap (count_by has_file) calls
      ∙ count_same has_file (call_taken s p r.n) old.calls.items (taken_same s p r.n));
}

-- a request that takes no page
pub syncs_add_other : (w : Workload) (h : List Event) (by : Actor) (r : Request) (s : Syncs) → IsAccepted w
    → IsLegal w (h ▹ Add by r) → ((t : Serial) (g : ℕ) → covers r (Page t g) ≡ false)
    → SyncsStand w s h → SyncsStand w s (h ▹ Add by r)
syncs_add_other w h by r s accepted legal out stands = record {
  files_many = stands.files_many;
  files_are = λ k x f there at. file_stays h (Add by r) f x x refl refl
      (λ place long are. puts_uncovered w h by r f place x.pages accepted legal (out f) are)
      (stands.files_are k x f there at);
  calls_many = stands.calls_many;
  calls_are = λ i x there. call_stays w h (Add by r) (i + 1) x x (of_none (Add by r) refl) refl refl
      (λ t place most is are. puts_uncovered w h by r t place x.pages accepted legal (out t) are)
      (stands.calls_are i x there);
  admitted = stands.admitted;
}
