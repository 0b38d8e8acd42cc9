-- The journal that runs along with a legal history shows its work: what it seals, commits and marks, and what it does next.
use Rattle.std.proofs.Common.{◌≡◌, ℕ, ◌+◌, ◌≤◌, List, [], ◌∷◌, length, slice_get, Bool, true, Option, Some, None, refl, ap, sym, subst, ◌∙◌, inl, inr, arith, if◌then◌else◌}
use Rattle.std.specs.Option.{is_some}
use Rattle.std.proofs.lemmas.Bool.Decides.{nat_tests}
use Rattle.std.proofs.lemmas.List.{length-replicate}
use Rattle.std.proofs.lemmas.Option.{same_Some}
use Rattle.split_types.specs.declared.ids.Pid.{Pid}
use Rattle.split_types.specs.declared.ids.ReqId.{ReqId}
use Rattle.split_types.specs.declared.ids.Serial.{Serial}
use Rattle.split_types.specs.declared.ids.Txn.{Txn}
use Rattle.split_types.specs.declared.actor.Actor.{Actor}
use Rattle.split_types.specs.declared.actor.Actor.TheVariants.{Client, Wb, Cm, Dn}
use Rattle.split_types.specs.declared.buf.Buf.{Buf}
use Rattle.split_types.specs.declared.buf.Buf.TheVariants.{Page, Bitmap, Dir, Inode}
use Rattle.split_types.specs.declared.request.ReqKind.TheVariants as kind
use Rattle.split_types.specs.declared.request.Request.{Request}
use Rattle.split_types.specs.declared.workload.Workload.{Workload}
use Rattle.split_types.specs.declared.event.Event.{Event}
use Rattle.split_types.specs.declared.event.Event.TheVariants.{Make, Put, Drop, Map, Seal, Add, Done}
use Rattle.split_types.specs.History.{◌▹◌, adds}
use Rattle.split_types.specs.Hooks.{maker}
use Rattle.split_types.specs.ByPlace.{IsMetadata}
use Rattle.split_types.specs.Reads.{request_numbered}
use Rattle.split_types.specs.Requests.{unfinished}
use Rattle.split_types.specs.Rounds.{seals, slot_of_txn}
use Rattle.split_types.specs.Serving.{request_for}
use Rattle.split_types.specs.Workloads.{first_block}
use Rattle.split_types.specs.FileSlots.{live_files}
use Rattle.split_types.specs.LiveFiles.{Slots}
use Rattle.split_types.specs.Transactions.{journal_slots, commit_at, in_journal, oldest_in, is_marked, is_of_commit, under_way, stage, Stage}
use Rattle.split_types.specs.Transactions.Stage.{Fresh, Sealed, Logging, Committing, Homing, Clearing}
use Rattle.split_types.specs.Accepted.{IsAccepted}
use Rattle.split_types.specs.Legal.{IsLegal}
use Rattle.split_types.specs.Proving.Came.{Came, journal_request, read_request}
use Rattle.split_types.specs.Proving.Came.Came.{came_load, came_add, came_seal, came_journal, came_done}
use Rattle.split_types.specs.Proving.Known.{KnownRequests}
use Rattle.split_types.specs.Proving.JournalKnown.{AreInARow, AtStage, AreHomes, JournalKnown}
use Rattle.split_types.proofs.Shared.{came, known_requests, journal_known}
use Rattle.split_types.proofs.JournalAdds.{of_journal}
use Rattle.split_types.proofs.JournalStepsDone.{flight_left, some_under_way}
use Rattle.journal_core.specs.declared.work.Work.{Work}
use Rattle.journal_core.specs.Places.{place_of}
use Rattle.journal_core.specs.Journaled.{Journaled, after_added, after_done, after_seal, IsOf, IsUnderWay}
use Rattle.split_core.specs.Journaling.{empty_journal, is_commit_request, journal_of}
use Rattle.split_core.proofs.JournalShown.{WorkShown}
use Rattle.split_core.proofs.JournalWorkPlaces.{blocks_count}
use Rattle.split_core.proofs.JournalWorkKnown.{Works, BeginsAt, Stands, stands_on}
use Rattle.split_core.proofs.JournalWorkMarks.{stands_make, stands_drop, stands_map}
use Rattle.split_core.proofs.JournalWorkSeal.{none_at, stands_seal}
use Rattle.split_core.proofs.JournalWorkAdds.{keeps_pages, journal_stands}
use Rattle.split_core.proofs.JournalWorkRounds.{stands_done}
use Rattle.split_core.proofs.JournalWorkNext.{next_is}
use Rattle.split_core.proofs.JournalWorkDrained.{none_under_way, drained}

-- ---- each event
-- a request that writes pages takes no mark
pages_marked : (h : List Event) (r : Request) (s : Serial) (g : ℕ) (b : Buf) → r.kind ≡ kind.Pages s g → IsMetadata b
    → is_marked (h ▹ Add Wb r) b ≡ is_marked h b
pages_marked h r s g (Page t k) is metadata = absurd (metadata)
pages_marked h r s g Bitmap is metadata = rw is refl
pages_marked h r s g (Dir k) is metadata = rw is refl
pages_marked h r s g (Inode slot) is metadata = rw is refl

added : (w : Workload) (h : List Event) (by : Actor) (r : Request) (j : Journaled (List ℕ)) → JournalKnown w h
    → Came w h (Add by r) → Stands w h j → Stands w (h ▹ Add by r) (if is_of_commit r then after_added j else j)
added w h by r j known (came_load p c s piece here absent block at) stands =
    let q : Request = read_request (adds h) p s piece.page block in
    stands_on w h (h ▹ Add (Client p) q) j (keeps_pages h (Client p) q refl refl refl (λ b. refl))
    (λ b is. refl) stands
added w h by r j known (came_add run block at there placed long) stands =
    let q : Request = request_for (adds h) run block in
    stands_on w h (h ▹ Add Wb q) j (keeps_pages h Wb q refl refl refl (λ b. refl))
    (λ b is. pages_marked h q run.serial run.page b refl is) stands
added w h by r j known (came_journal k first n next) stands =
    let q : Request = journal_request (adds h) k first n in
    subst (λ b. Stands w (h ▹ Add Cm q) (if b then after_added j else j)) (sym (of_journal w h (adds h) k first n next).commits)
    (journal_stands w h k first n j known next stands)

sealed : (w : Workload) (h : List Event) (t : Txn) (k : ℕ) (first : ℕ) (files : Slots) (j : Journaled (List ℕ))
    → JournalKnown w h → Came w h (Seal t k) → Stands w h j → Stands w (h ▹ Seal t k) (after_seal first files j)
sealed w h t k first files j known (came_seal may) stands = stands_seal w h first files j may known stands

done : (w : Workload) (h : List Event) (k : ℕ) (id : ReqId) (ok : Bool) (j : Journaled (List ℕ)) → KnownRequests h
    → JournalKnown w h → Came w h (Done k id ok) → Stands w h j
    → Stands w (h ▹ Done k id ok) (if is_commit_request (request_numbered h id) then after_done j else j)
done w h k id ok j f known (came_done i r at) stands = stands_done w h i r j f at known stands

-- before any event
stands_none : (w : Workload) (images : List (List ℕ)) → Stands w [] (empty_journal (journal_slots w) images)
stands_none w images = record {
  marks_long = length-replicate {A = Option (List ℕ)} 261 None;
  round_long = length-replicate {A = Option (List ℕ)} 261 None;
  slots_long = length-replicate {A = Option (List ℕ)} (journal_slots w) None;
  marks_are = λ b is. ap is_some (none_at 261 (place_of b));
  round_is = λ b is. ap is_some (none_at 261 (place_of b));
  works = refl;
  homes = tt;
  begin = λ i r at of. absurd (cc);
  committed = λ t. grind (arith, nat_tests);
}

pub stands : (w : Workload) (images : List (List ℕ)) (h : List Event) → IsAccepted w → IsLegal w h
    → Stands w h (journal_of w images h)
stands w images [] accepted legal = stands_none w images
stands w images (h ▹ Make by slot serial) accepted legal =
    stands_make w h by slot serial (journal_of w images h) legal (stands w images h accepted legal.1)
stands w images (h ▹ Drop by slot serial) accepted legal =
    stands_drop w h by slot serial (journal_of w images h) accepted legal (stands w images h accepted legal.1)
stands w images (h ▹ Map slot serial g n block new size) accepted legal =
    stands_map w h slot serial g n block new size (journal_of w images h) accepted legal
    (stands w images h accepted legal.1)
stands w images (h ▹ Seal t k) accepted legal =
    sealed w h t k (first_block w) (live_files w h) (journal_of w images h) (journal_known w h accepted legal.1)
    (came w h Cm (Seal t k) legal.0) (stands w images h accepted legal.1)
stands w images (h ▹ Add by r) accepted legal =
    added w h by r (journal_of w images h) (journal_known w h accepted legal.1)
    (came w h (maker (Add by r)) (Add by r) legal.0) (stands w images h accepted legal.1)
stands w images (h ▹ Done k id ok) accepted legal =
    done w h k id ok (journal_of w images h) (known_requests w h accepted legal.1) (journal_known w h accepted legal.1)
    (came w h (Dn k) (Done k id ok) legal.0) (stands w images h accepted legal.1)
stands w images (h ▹ Put by serial g from to fill) accepted legal =
    stands_on w h (h ▹ Put by serial g from to fill) (journal_of w images h)
    (record {
      same_stage = refl;
      sealed = refl;
      held = refl;
      slot = λ t. refl;
      under = refl;
      left = λ i r at commits. (i, at);
      home = refl;
      awaits = λ b. refl;
      settled = λ t. refl;
    })
    (put_marked h by serial g from to fill) (stands w images h accepted legal.1)
  where
    put_marked : (h : List Event) (by : Pid) (serial : Serial) (g from to fill : ℕ) (b : Buf) → IsMetadata b
        → is_marked (h ▹ Put by serial g from to fill) b ≡ is_marked h b
    put_marked h by serial g from to fill (Page t k) is = absurd (is)
    put_marked h by serial g from to fill Bitmap is = refl
    put_marked h by serial g from to fill (Dir k) is = refl
    put_marked h by serial g from to fill (Inode slot) is = refl
stands w images (h ▹ e) accepted legal =
    stands_on w h (h ▹ e) (journal_of w images h)
    (record {
      same_stage = refl;
      sealed = refl;
      held = refl;
      slot = λ t. refl;
      under = refl;
      left = λ i r at commits. (i, at);
      home = refl;
      awaits = λ b. refl;
      settled = λ t. refl;
    })
    (λ b is. refl) (stands w images h accepted legal.1)

-- ---- what it shows
sealed_is : (h : List Event) (work : Work) (logged : ℕ) (s : Stage) → Works h work logged s → work.sealed ≡ seals h
sealed_is h work logged Fresh is = ap (λ (x : Work). x.sealed) is
sealed_is h work logged (Sealed t k) is = ap (λ (x : Work). x.sealed) is.0.work_is
sealed_is h work logged (Logging t) (inl is) = ap (λ (x : Work). x.sealed) is.1.work_is
sealed_is h work logged (Logging t) (inr is) = ap (λ (x : Work). x.sealed) is.1.work_is
sealed_is h work logged (Committing t) (inl is) = ap (λ (x : Work). x.sealed) is.1.work_is
sealed_is h work logged (Committing t) (inr is) = ap (λ (x : Work). x.sealed) is.1
sealed_is h work logged (Homing t) (inl is) = ap (λ (x : Work). x.sealed) is.work_is
sealed_is h work logged (Homing t) (inr is) = ap (λ (x : Work). x.sealed) is.2.work_is
sealed_is h work logged (Clearing t) (inl is) = ap (λ (x : Work). x.sealed) is.work_is
sealed_is h work logged (Clearing t) (inr is) = ap (λ (x : Work). x.sealed) is.2

-- the first of some transactions in a row
oldest_number : (low : ℕ) (ts : List Txn) (high : ℕ) (t : Txn) → AreInARow low ts high → oldest_in ts ≡ Some t
    → t.0 ≡ low + 1
oldest_number low [] high t row is = absurd (cc)
oldest_number low (u ∷ ts) high t row is = omega (arith, row.0, ap (λ (x : Txn). x.0) (same_Some u t is))

-- a request of the commit thread that is done is the one that is under way
under_way_is : (w : Workload) (h : List Event) (j : Journaled (List ℕ)) (i : ℕ) (r : Request) → JournalKnown w h
    → Stands w h j → slice_get (unfinished h) i ≡ Some r → is_of_commit r ≡ true → IsUnderWay j r.kind r.first
under_way_is w h j i r known s at commits =
    by_stage (stage h) known.stands s.works (s.begin i r at commits)
  where
    one : 1 ≤ under_way h
    one = some_under_way (unfinished h) i r at commits

    is_under : (work : Work) → j.work ≡ work → 1 ≤ work.unfinished → IsOf j work.stage r.kind r.first
        → IsUnderWay j r.kind r.first
    is_under work is some of = record {
      some = subst (λ (x : Work). 1 ≤ x.unfinished) (sym is) some;
      of_stage = subst (λ (x : Work). IsOf j x.stage r.kind r.first) (sym is) of;
    }

    by_stage : (t : Stage) → AtStage h known.cleared t → Works h j.work (length j.logged) t → BeginsAt h t r.first
        → IsUnderWay j r.kind r.first
    by_stage Fresh kept works begin = absurd (omega (arith, one, kept.0))
    by_stage (Sealed t n) kept works begin = absurd (omega (arith, one, kept.0))
    by_stage (Logging t) kept (inl works) begin =
        is_under _ works.1.work_is (omega arith) (kept.3 i r at commits, begin)
    by_stage (Logging t) kept (inr works) begin = absurd (omega (arith, one, works.0))
    by_stage (Committing t) kept (inl works) begin =
        is_under _ works.1.work_is (omega arith) (kept.3 i r at commits, begin)
    by_stage (Committing t) kept (inr works) begin = absurd (omega (arith, one, works.0))
    by_stage (Homing t) kept (inl works) begin =
        let homes : AreHomes h t = kept.2 in is_under _ works.work_is one (homes.kinds i r at commits)
    by_stage (Homing t) kept (inr works) begin = absurd (omega (arith, one, works.1))
    by_stage (Clearing t) (inr none) works begin = absurd (omega (arith, one, none))
    by_stage (Clearing t) kept (inr works) begin = absurd (omega (arith, one, works.0))
    by_stage (Clearing t) (inl clearing) (inl works) begin =
        let same : t ≡ works.txn =
        ap (λ n. record { 0 = n })
        (omega (
          arith,
          clearing.1,
          oldest_number known.cleared (in_journal h) (seals h) works.txn known.row works.oldest,
        )) in
        is_under _ works.work_is one (
          clearing.2 i r at commits ∙ ap kind.Clear same,
          begin ∙ ap (λ u. commit_at (slot_of_txn h u)) same,
        )

done_is : (w : Workload) (h : List Event) (k : ℕ) (id : ReqId) (ok : Bool) (r : Request) (j : Journaled (List ℕ))
    → KnownRequests h → JournalKnown w h → Stands w h j → Came w h (Done k id ok) → request_numbered h id ≡ Some r
    → is_of_commit r ≡ true → IsUnderWay j r.kind r.first
done_is w h k id ok r j f known s (came_done i q at) named commits =
    let same : q ≡ r = same_Some q r (sym (f.named q.id q (f.waiting.flight_of i q at)) ∙ named) in
    let place = flight_left h i q f at in
    under_way_is w h j place.0 r known s (place.1 ∙ ap Some same) commits

pub work_shown : (w : Workload) (images : List (List ℕ)) (h : List Event) → IsAccepted w → IsLegal w h
    → WorkShown w h (journal_of w images h)
work_shown w images h accepted legal =
    shown (journal_of w images h) (journal_known w h accepted legal) (stands w images h accepted legal)
  where
    shown : (j : Journaled (List ℕ)) → JournalKnown w h → Stands w h j → WorkShown w h j
    shown j known s = record {
      next_is = next_is w h j known s;
      sealed_is = sealed_is h j.work (length j.logged) (stage h) s.works;
      committed_is = λ t. sym (s.committed t);
      slots_are = s.slots_long;
      marked_is = blocks_count (is_marked h) j.marks s.marks_long s.marks_are;
      drained_is =
          λ none quiet.
          drained w h j known s legal (none_under_way h (known_requests w h accepted legal) none quiet);
      done_is =
          λ k id ok r next named commits.
          done_is w h k id ok r j (known_requests w h accepted legal) known s (came w h (Dn k) (Done k id ok) next.0) named
          commits;
    }
