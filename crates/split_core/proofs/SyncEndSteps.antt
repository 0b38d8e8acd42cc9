-- What is kept of files and fsyncs after a request is done.
use Rattle.std.proofs.Common.{◌≡◌, ℕ, ◌+◌, ◌≤◌, ◌==◌, Bool, true, false, List, length, map, slice_get, Option, Some, None, refl, ap, sym, ◌∙◌, subst, if◌then◌else◌}
use Rattle.std.specs.Prelude.{count_by, is_some}
use Rattle.std.proofs.lemmas.Bool.{eqb-true, eq-eqb, both_ways}
use Rattle.std.proofs.lemmas.Option.{same_Some}
use Rattle.std.proofs.lemmas.List.{length-map}
use Rattle.split_types.specs.declared.ids.Serial.{Serial}
use Rattle.split_types.specs.declared.ids.ReqId.{ReqId}
use Rattle.split_types.specs.declared.actor.Actor.{Actor}
use Rattle.split_types.specs.declared.buf.Buf.TheVariants.{Page}
use Rattle.split_types.specs.declared.request.ReqKind.{ReqKind}
use Rattle.split_types.specs.declared.request.ReqKind.TheVariants.{Pages}
use Rattle.split_types.specs.declared.request.Request.{Request}
use Rattle.split_types.specs.declared.workload.Workload.{Workload}
use Rattle.split_types.specs.declared.event.Event.{Event}
use Rattle.split_types.specs.declared.event.Event.TheVariants.{Add, Done}
use Rattle.split_types.specs.History.{◌▹◌}
use Rattle.split_types.specs.Hooks.{covers}
use Rattle.split_types.specs.Requests.{requests}
use Rattle.split_types.specs.FileSlots.{file_in_slot}
use Rattle.split_types.specs.FilesInOrder.{AreFiles}
use Rattle.split_types.specs.Accepted.{IsAccepted}
use Rattle.split_types.specs.Legal.{IsLegal}
use Rattle.split_types.proofs.Shared.{files_are_in_order}
use Rattle.split_core.specs.declared.note.syncs.CallSync.{CallSync}
use Rattle.split_core.specs.declared.note.syncs.Syncs.{Syncs}
use Rattle.split_core.specs.Fits.{HaveBlocks, RunFits, Frees, AddsKind, DoneKind, DoneFits, Fits}
use Rattle.split_core.specs.Pages.{IsDoneOf}
use Rattle.split_core.specs.Syncs.{FileSyncIs, CallSyncIs, SyncsStand, has_file, live_slot, file_changed, file_done, is_of, call_done, pages_done}
use Rattle.split_core.proofs.SyncFiles.{count_same}
use Rattle.split_core.proofs.SyncPutNotes.{puts_done, puts_undone, covers_other}
use Rattle.split_core.proofs.SyncNotes.{files_over, files_long, calls_over, file_stays, call_stays, in_slot, off_slot}
use Rattle.split_core.proofs.SyncNotes.IsApart.{of_none}

-- ---- a request that is added
run_added : (w : Workload) (h : List Event) (by : Actor) (r : Request) (s : Serial) (g : ℕ)
    → AddsKind w h by r.kind r.n r.first → r.kind ≡ Pages s g → g + r.n ≤ 1008
run_added w h by r s g kind is =
    let known = subst (λ (k : ReqKind). AddsKind w h by k r.n r.first) is kind
    in let run : RunFits w h s g r.n r.first = known.1
    in run.blocks.within

pub added_within : (w : Workload) (h : List Event) (by : Actor) (r : Request) (s : Serial) (g : ℕ)
    → Fits w h (Add by r) → r.kind ≡ Pages s g → g + r.n ≤ 1008
added_within w h by r s g fits is = run_added w h by r s g fits.kind.kind is

-- a request that is for no pages of a file covers none
pub covers_none : (r : Request) (t : Serial) (g : ℕ) → ((s : Serial) (p : ℕ) → r.kind ≡ Pages s p → ⊥)
    → covers r (Page t g) ≡ false
covers_none r t g none = by_kind r.kind refl
  where
    by_kind : (k : ReqKind) → r.kind ≡ k → covers r (Page t g) ≡ false
    by_kind (Pages s p) is = absurd (none s p is)
    by_kind k is = rw is refl

-- ---- a request that is done
done_same : (s : Serial) (g n : ℕ) (x : CallSync) → has_file (call_done s g n x) ≡ has_file x
done_same s g n x = by_test (is_of s x)
  where
    by_test : (b : Bool) → is_some (if b then record x { pages = pages_done g n x.pages } else x).file ≡ is_some x.file
    by_test true = refl
    by_test false = refl

-- a request is done well, so that what it writes isn't on its way any more
pub record IsDoneWell (w : Workload) (h : List Event) (k : ℕ) (id : ReqId) (r : Request) : Type 0 where
  pub accepted : IsAccepted w
  pub legal : IsLegal w (h ▹ Done k id true)
  pub there : slice_get (requests h) id.0 ≡ Some r
  pub frees : Frees h (Done k id true) r

call_end : (w : Workload) (h : List Event) (k : ℕ) (id : ReqId) (r : Request) (s : Serial) (p i : ℕ) (x : CallSync)
    → IsDoneWell w h k id r → r.kind ≡ Pages s p → p + r.n ≤ 1008
    → CallSyncIs w h i x → CallSyncIs w (h ▹ Done k id true) i (call_done s p r.n x)
call_end w h k id r s p i x done is within was = by_test (is_of s x) refl
  where
    e : Event
    e = Done k id true

    file_is : (o : Option Serial) (t : Serial) → o ≡ Some t
        → ◌≡◌ {A = Bool} (elim o [ None ↦ false | Some f ↦ f.0 == s.0 ]) (t.0 == s.0)
    file_is o t at = ap (λ (q : Option Serial). elim q [ None ↦ false | Some f ↦ f.0 == s.0 ]) at

    by_test : (b : Bool) → is_of s x ≡ b
        → CallSyncIs w (h ▹ Done k id true) i (if b then record x { pages = pages_done p r.n x.pages } else x)
    by_test true of = call_stays w h e i x (record x { pages = pages_done p r.n x.pages })
        (of_none e refl) refl refl
        (λ t at most file are.
        let same : t.0 ≡ s.0 = eqb-true t.0 s.0 (sym (file_is x.file t file) ∙ of)
        in puts_done w h k id r t p at x.pages done.accepted done.legal done.there done.frees
        (is ∙ ap (λ n. Pages (record { 0 = n }) p) (sym same)) within are) was
    by_test false of = call_stays w h e i x x (of_none e refl) refl refl
        (λ t at most file are.
        puts_undone w h k id r t at x.pages done.accepted done.legal done.there done.frees
        (λ g. covers_other r s t p g is (λ same. both_ways (is_of s x) of
        (file_is x.file t file ∙ eq-eqb t.0 s.0 (sym same)))) are) was

pub syncs_done : (w : Workload) (h : List Event) (k : ℕ) (id : ReqId) (r : Request) (s : Serial) (p : ℕ)
    (old new : Syncs) → IsDoneWell w h k id r → r.kind ≡ Pages s p → p + r.n ≤ 1008
    → new.files.items ≡ file_changed (file_done p r.n) (live_slot w h s) old.files.items
    → new.calls.items ≡ map (call_done s p r.n) old.calls.items → new.admitted ≡ old.admitted
    → SyncsStand w old h → SyncsStand w new (h ▹ Done k id true)
syncs_done w h k id r s p old new done is within files calls admitted stands = record {
  files_many = files_long (file_done p r.n) (live_slot w h s) old.files.items new.files.items files ∙ stands.files_many;
  files_are = λ i x f there at.
      files_over (λ j y. (t : Serial) → file_in_slot w h j ≡ Some t → FileSyncIs (h ▹ Done k id true) t y)
      (file_done p r.n) (live_slot w h s) old.files.items new.files.items files
      (λ j y was here t in'.
      let same : t.0 ≡ s.0 = in_slot w h s t j order in' here
      in file_stays h (Done k id true) t y (file_done p r.n y) refl refl
      (λ place long are. puts_done w h k id r t p place y.pages done.accepted done.legal done.there done.frees
      (is ∙ ap (λ n. Pages (record { 0 = n }) p) (sym same)) within are)
      (stands.files_are j y t was in'))
      (λ j y was out t in'.
      file_stays h (Done k id true) t y y refl refl
      (λ place long are. puts_undone w h k id r t place y.pages done.accepted done.legal done.there done.frees
      (λ g. covers_other r s t p g is (λ same. off_slot w h s t j order in' out (sym same))) are)
      (stands.files_are j y t was in'))
      i x there f at;
  calls_many = ap length calls ∙ length-map old.calls.items (call_done s p r.n) ∙ stands.calls_many;
  calls_are = λ i x there.
      calls_over (λ j y. CallSyncIs w (h ▹ Done k id true) (j + 1) y) (call_done s p r.n) old.calls.items
      new.calls.items calls (λ j y was. call_end w h k id r s p (j + 1) y done is within (stands.calls_are j y was))
      i x there;
  admitted = admitted ∙ stands.admitted
      ∙ sym (ap (count_by has_file) calls
      ∙ count_same has_file (call_done s p r.n) old.calls.items (done_same s p r.n));
}
  where
    order : AreFiles w h
    order = files_are_in_order w h done.accepted done.legal.1

-- a request that takes no page
pub syncs_done_other : (w : Workload) (h : List Event) (k : ℕ) (id : ReqId) (r : Request) (s : Syncs)
    → IsDoneWell w h k id r → ((t : Serial) (g : ℕ) → covers r (Page t g) ≡ false)
    → SyncsStand w s h → SyncsStand w s (h ▹ Done k id true)
syncs_done_other w h k id r s done out stands = record {
  files_many = stands.files_many;
  files_are = λ i x f there at. file_stays h e f x x refl refl
      (λ place long are. puts_undone w h k id r f place x.pages done.accepted done.legal done.there done.frees
      (out f) are)
      (stands.files_are i x f there at);
  calls_many = stands.calls_many;
  calls_are = λ i x there. call_stays w h e (i + 1) x x (of_none e refl) refl refl
      (λ t place most is are. puts_undone w h k id r t place x.pages done.accepted done.legal done.there done.frees
      (out t) are)
      (stands.calls_are i x there);
  admitted = stands.admitted;
}
  where
    e : Event
    e = Done k id true

-- the event says that the request is done well
pub record EndsWell (w : Workload) (h : List Event) (e : Event) (r : Request) : Type 0 where
  pub k : ℕ
  pub id : ReqId
  pub is : e ≡ Done k id true
  pub well : IsDoneWell w h k id r
  pub kind : DoneKind w h r.kind r.n r.first

ends_well : (w : Workload) (h : List Event) (k : ℕ) (id : ReqId) (ok : Bool) (r : Request) → IsAccepted w
    → IsLegal w (h ▹ Done k id ok) → DoneFits w h k id ok → slice_get (requests h) id.0 ≡ Some r
    → EndsWell w h (Done k id ok) r
ends_well w h k id ok r accepted legal fits at =
    let one : fits.request ≡ r = same_Some fits.request r (sym fits.at ∙ at)
    in record {
      k = k;
      id = id;
      is = ap (Done k id) fits.ok_is;
      well = record {
        accepted = accepted;
        legal = subst (λ b. IsLegal w (h ▹ Done k id b)) fits.ok_is legal;
        there = at;
        frees = subst (λ b. Frees h (Done k id b) r) fits.ok_is
            (subst (λ (q : Request). Frees h (Done k id ok) q) one fits.frees);
      };
      kind = subst (λ (q : Request). DoneKind w h q.kind q.n q.first) one fits.kind;
    }

pub done_of : (w : Workload) (h : List Event) (e : Event) (r : Request) → IsAccepted w → Fits w h e → IsDoneOf h e r
    → EndsWell w h e r
done_of w h (Done k id ok) r accepted fits is = ends_well w h k id ok r accepted fits.legal fits.kind is
done_of w h e r accepted fits is = absurd is

run_done : (w : Workload) (h : List Event) (r : Request) (s : Serial) (g : ℕ) → DoneKind w h r.kind r.n r.first
    → r.kind ≡ Pages s g → HaveBlocks w h s g r.n r.first
run_done w h r s g kind is = subst (λ (q : ReqKind). DoneKind w h q r.n r.first) is kind

pub done_within : (w : Workload) (h : List Event) (e : Event) (r : Request) (s : Serial) (g : ℕ) → IsAccepted w
    → Fits w h e → IsDoneOf h e r → r.kind ≡ Pages s g → g + r.n ≤ 1008
done_within w h e r s g accepted fits done is =
    (run_done w h r s g (done_of w h e r accepted fits done).kind is).within

pub syncs_end : (w : Workload) (h : List Event) (e : Event) (r : Request) (s : Serial) (p : ℕ) (old new : Syncs)
    → IsAccepted w → Fits w h e → IsDoneOf h e r → r.kind ≡ Pages s p
    → new.files.items ≡ file_changed (file_done p r.n) (live_slot w h s) old.files.items
    → new.calls.items ≡ map (call_done s p r.n) old.calls.items → new.admitted ≡ old.admitted
    → SyncsStand w old h → SyncsStand w new (h ▹ e)
syncs_end w h e r s p old new accepted fits done is files calls admitted stands =
    let of = done_of w h e r accepted fits done
    in subst (λ (d : Event). SyncsStand w new (h ▹ d)) (sym of.is)
    (syncs_done w h of.k of.id r s p old new of.well is (run_done w h r s p of.kind is).within files calls admitted
    stands)

pub syncs_end_other : (w : Workload) (h : List Event) (e : Event) (r : Request) (s : Syncs) → IsAccepted w
    → Fits w h e → IsDoneOf h e r → ((t : Serial) (p : ℕ) → r.kind ≡ Pages t p → ⊥)
    → SyncsStand w s h → SyncsStand w s (h ▹ e)
syncs_end_other w h e r s accepted fits done none stands =
    let of = done_of w h e r accepted fits done
    in subst (λ (d : Event). SyncsStand w s (h ▹ d)) (sym of.is)
    (syncs_done_other w h of.k of.id r s of.well (λ t g. covers_none r t g none) stands)
