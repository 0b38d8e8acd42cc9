-- The tags of the journal over a completion.
use Rattle.std.proofs.Common.{◌≡◌, ℕ, ◌+◌, ◌-◌, ◌≤◌, List, [], ◌∷◌, length, slice_get, filter, nat_lt, Bool, true, false, not, ◌||◌, Option, Some, None, refl, arith, subst, sym, inl, inr, ◌∙◌, ap, if◌then◌else◌}
use Rattle.std.proofs.lemmas.Bool.{cases_Bool, both_ways, cond-true, cond-false, eq-eqb, not_from_true, not_from_false}
use Rattle.std.proofs.lemmas.List.{get_or-set_other}
use Rattle.split_types.specs.declared.ids.Txn.{Txn}
use Rattle.split_types.specs.declared.ids.ReqId.{ReqId}
use Rattle.split_types.specs.declared.request.ReqKind.{ReqKind}
use Rattle.split_types.specs.declared.request.ReqKind.TheVariants as kind
use Rattle.split_types.specs.declared.request.Request.{Request}
use Rattle.split_types.specs.declared.workload.Workload.{Workload}
use Rattle.split_types.specs.declared.event.Event.{Event}
use Rattle.split_types.specs.declared.event.Event.TheVariants.{Done}
use Rattle.split_types.specs.History.{◌▹◌}
use Rattle.split_types.specs.Hooks.{maker}
use Rattle.split_types.specs.Requests.{in_flight}
use Rattle.split_types.specs.Reads.{request_numbered}
use Rattle.split_types.specs.Rounds.{slot_of_txn}
use Rattle.split_types.specs.Transactions.{clears, in_journal, is_of_commit}
use Rattle.split_types.specs.Accepted.{IsAccepted}
use Rattle.split_types.specs.Legal.{IsLegal}
use Rattle.split_types.specs.Proving.Came.{Came}
use Rattle.split_types.specs.Proving.Came.Came.{came_done}
use Rattle.split_types.specs.Proving.Known.{KnownRequests}
use Rattle.split_types.specs.Proving.JournalKnown.{JournalKnown}
use Rattle.split_types.proofs.CameLaws.{came}
use Rattle.split_types.proofs.RequestLaws.{known_requests}
use Rattle.split_types.proofs.Lists.{filter_there}
use Rattle.split_types.proofs.JournalStepsAdds.{journal_known}
use Rattle.proxies.specs.declared.commit.Commit.{Commit}
use Rattle.proxies.specs.declared.commit.Commit.TheVariants.{Idle, Log, Marking, Homes, Clear}
use Rattle.journal_core.specs.declared.work.Work.{Work}
use Rattle.journal_core.specs.Work.{txn, done_work, cleared_slot}
use Rattle.journal_core.specs.Places.{blocks_of}
use Rattle.journal_core.specs.Journaled.{Journaled, IsOf, IsUnderWay, without, after_done}
use Rattle.split_core.specs.Journaling.{after_event, is_commit_request}
use Rattle.split_core.proofs.JournalShown.{WorkShown}
use Rattle.split_core.proofs.JournalTagsKept.{SlotsAre, StageIs, TagsAre, IsInJournal, marks_stay, round_stays, slots_stay, tags_stay}
use Rattle.split_core.proofs.JournalTagsSlots.{stands_there, slots_apart, clearing_round}

-- ---- what stays in the journal
-- one of other transactions
keeps_all : (p : Txn → Bool) (ts : List Txn) → ((t : Txn) → p t ≡ true) → filter p ts ≡ ts
keeps_all p [] all = refl
keeps_all p (t ∷ ts) all =
    cond-true (p t) (t ∷ filter p ts) (filter p ts) (all t) ∙ ap (λ l. t ∷ l) (keeps_all p ts all)

journal_kept : (h : List Event) (k : ℕ) (r : Request) → request_numbered h r.id ≡ Some r
    → ((t : Txn) → clears t (Some r) ≡ false) → in_journal (h ▹ Done k r.id true) ≡ in_journal h
journal_kept h k r named past =
    ap (λ o. filter (λ t. not (clears t o)) (in_journal h)) named
    ∙ keeps_all (λ t. not (clears t (Some r))) (in_journal h) (λ t. not_from_false (clears t (Some r)) (past t))

shorter : (p : Txn → Bool) (ts : List Txn) → length (filter p ts) ≤ length ts
shorter p [] = omega arith
shorter p (t ∷ ts) = by_test (p t) (shorter p ts)
  where
    by_test : (b : Bool) → length (filter p ts) ≤ length ts
        → length (if b then t ∷ filter p ts else filter p ts) ≤ length (t ∷ ts)
    by_test true l = omega arith
    by_test false l = omega arith

in_before : (h : List Event) (k : ℕ) (r : Request) (t : Txn) → IsInJournal (h ▹ Done k r.id true) t → IsInJournal h t
in_before h k r t there =
    (there.0, omega (arith, there.1, shorter (λ u. not (clears u (request_numbered h r.id))) (in_journal h)))

-- ---- the slots
-- a transaction that is still there isn't the one that was cleared
other_there : (w : Workload) (h : List Event) (k : ℕ) (r : Request) (t u : Txn) → JournalKnown w (h ▹ Done k r.id true)
    → request_numbered h r.id ≡ Some r → r.kind ≡ kind.Clear t → IsInJournal (h ▹ Done k r.id true) u → t.0 ≡ u.0 → ⊥
other_there w h k r t u j named kind there same =
    let at = stands_there w (h ▹ Done k r.id true) u j there
    in let stays = filter_there (λ x. not (clears x (request_numbered h r.id))) (in_journal h) at.0 u at.1
    in both_ways (not (clears u (request_numbered h r.id)))
    (not_from_true (clears u (request_numbered h r.id)) (ap (clears u) named ∙ own)) stays.2
  where
    own : clears u (Some r) ≡ true
    own = rw kind (eq-eqb t.0 u.0 same)

slots_done : (w : Workload) (h : List Event) (k : ℕ) (r : Request) (j : Journaled (List ℕ)) (used unfinished : ℕ)
    (s : Commit ℕ) (slots : List (Option (List ℕ))) → JournalKnown w h → JournalKnown w (h ▹ Done k r.id true)
    → request_numbered h r.id ≡ Some r → 1 ≤ unfinished → IsOf j s r.kind r.first → StageIs h used unfinished s
    → SlotsAre h slots → SlotsAre (h ▹ Done k r.id true) (without (cleared_slot s) slots)
slots_done w h k r j used unfinished s slots before after named some of is are = by_stage s of is
  where
    kept : SlotsAre (h ▹ Done k r.id true) slots
    kept =
        slots_stay h (Done k r.id true) slots
        (record { fewer = λ t there. in_before h k r t there; slot_is = λ t. refl; place_is = λ t. refl }) are

    by_stage : (s : Commit ℕ) → IsOf j s r.kind r.first → StageIs h used unfinished s
        → SlotsAre (h ▹ Done k r.id true) (without (cleared_slot s) slots)
    by_stage Idle of is = kept
    by_stage (Log t slot) of is = kept
    by_stage (Marking t slot) of is = kept
    by_stage (Homes t slot added) of is = kept
    by_stage (Clear t slot) of is =
        λ u there. get_or-set_other slots slot (slot_of_txn h u) None None
        (λ (e : slot_of_txn h u ≡ slot). other_there w h k r t u after named of.0 there
        (slots_apart w h t u before (is some).1 (in_before h k r u there) (sym (is some).0 ∙ sym e)))
        ∙ kept u there

-- ---- what commit is doing
abbrev DoneStage : List Event → Work → Type 0
DoneStage h work = StageIs h work.used work.unfinished work.stage

stage_done : (w : Workload) (h : List Event) (k : ℕ) (r : Request) (j : Journaled (List ℕ)) (more : Bool)
    (used unfinished sealed committed : ℕ) (s : Commit ℕ) → KnownRequests h → JournalKnown w h
    → slice_get (in_flight h) k ≡ Some r → IsOf j s r.kind r.first → StageIs h used unfinished s
    → DoneStage (h ▹ Done k r.id true) (done_work more (record {
      stage = s;
      unfinished = unfinished;
      sealed = sealed;
      committed = committed;
      used = used;
    }))
stage_done w h k r j more used unfinished sealed committed Idle f known at of is = absurd of
stage_done w h k r j more used unfinished sealed committed (Log t slot) f known at of is = is
stage_done w h k r j more used unfinished sealed committed (Marking t slot) f known at of is = is
stage_done w h k r j more used unfinished sealed committed (Homes t slot added) f known at of is =
    by_test (more || nat_lt 1 unfinished)
  where
    work : Work
    work = record {
      stage = Homes t slot added;
      unfinished = unfinished;
      sealed = sealed;
      committed = committed;
      used = used;
    }

    by_test : (b : Bool) → DoneStage (h ▹ Done k r.id true)
        (if b then record work { unfinished = unfinished - 1 }
        else record work { stage = Clear (txn (sealed + 1 - used)) 0; unfinished = 0 })
    by_test true = is
    by_test false = λ some. absurd (omega (arith, some))
stage_done w h k r j more used unfinished sealed committed (Clear t slot) f known at of is =
    by_test (nat_lt (slot + 1) used)
  where
    work : Work
    work = record {
      stage = Clear t slot;
      unfinished = unfinished;
      sealed = sealed;
      committed = committed;
      used = used;
    }

    by_test : (b : Bool) → DoneStage (h ▹ Done k r.id true)
        (if b then record work { stage = Clear (txn (t.0 + 1)) (slot + 1); unfinished = 0 }
        else record work { stage = Idle; unfinished = 0; used = 0 })
    by_test true = λ some. absurd (omega (arith, some))
    by_test false = sym (ap length (clearing_round w h k r t f known at of.0))

-- ---- the whole
-- a request of the journal
tags_cleared : (w : Workload) (h : List Event) (k : ℕ) (r : Request) (j : Journaled (List ℕ)) → IsAccepted w
    → IsLegal w (h ▹ Done k r.id true) → KnownRequests h → slice_get (in_flight h) k ≡ Some r
    → IsUnderWay j r.kind r.first → TagsAre h j → TagsAre (h ▹ Done k r.id true) (after_done j)
tags_cleared w h k r j accepted legal f at under are = record {
  marks = marks_stay h (Done k r.id true) j.marks (λ b metadata. refl) are.marks;
  round = round_stays w h (Done k r.id true) j.round accepted legal.1 (λ b metadata. refl) are.round;
  slots =
      slots_done w h k r j j.work.used j.work.unfinished j.work.stage j.slots (journal_known w h accepted legal.1)
      (journal_known w (h ▹ Done k r.id true) accepted legal) (f.named r.id r (f.waiting.flight_of k r at)) under.some
      under.of_stage are.stage are.slots;
  stage =
      stage_done w h k r j (nat_lt 0 (length (blocks_of j.round))) j.work.used j.work.unfinished j.work.sealed
      j.work.committed j.work.stage f (journal_known w h accepted legal.1) at under.of_stage are.stage;
}

-- one of another actor
clears_no : (r : Request) → is_of_commit r ≡ false → (t : Txn) → clears t (Some r) ≡ false
clears_no r none t = by_kind r.kind refl
  where
    by_kind : (k : ReqKind) → r.kind ≡ k → clears t (Some r) ≡ false
    by_kind (kind.Read p s g) is = rw is refl
    by_kind (kind.Pages s g) is = rw is refl
    by_kind (kind.Log u) is = rw is refl
    by_kind (kind.Commit u) is = rw is refl
    by_kind (kind.Home u) is = rw is refl
    by_kind (kind.Clear u) is = absurd (both_ways (is_of_commit r) none (rw is refl))

tags_moved : (w : Workload) (h : List Event) (k : ℕ) (r : Request) (j : Journaled (List ℕ)) → IsAccepted w
    → IsLegal w h → request_numbered h r.id ≡ Some r → is_of_commit r ≡ false → TagsAre h j
    → TagsAre (h ▹ Done k r.id true) j
tags_moved w h k r j accepted legal named none are =
    tags_stay w h (Done k r.id true) j accepted legal (λ b metadata. refl)
    (record {
      awaits = λ b. refl;
      round = refl;
      sealed = refl;
      journal = journal_kept h k r named (clears_no r none);
      slot = λ t. refl;
      place = λ t. refl;
    }) are

tags_came : (w : Workload) (h : List Event) (k : ℕ) (id : ReqId) (ok : Bool) (j : Journaled (List ℕ)) → IsAccepted w
    → IsLegal w (h ▹ Done k id ok) → WorkShown w h j → Came w h (Done k id ok) → TagsAre h j
    → TagsAre (h ▹ Done k id ok) (after_event w h (Done k id ok) j)
tags_came w h k id ok j accepted legal shown (came_done i r at) are = elim (cases_Bool (is_of_commit r)) [
  | inl commits ↦
      subst (TagsAre (h ▹ Done i r.id true))
      (sym (cond-true (is_commit_request (request_numbered h r.id)) (after_done j) j
      (ap is_commit_request named ∙ commits)))
      (tags_cleared w h i r j accepted legal f at (shown.done_is i r.id true r legal named commits) are)
  | inr moves ↦
      subst (TagsAre (h ▹ Done i r.id true))
      (sym (cond-false (is_commit_request (request_numbered h r.id)) (after_done j) j
      (ap is_commit_request named ∙ moves)))
      (tags_moved w h i r j accepted legal.1 named moves are)
]
  where
    f : KnownRequests h
    f = known_requests w h accepted legal.1

    named : request_numbered h r.id ≡ Some r
    named = f.named r.id r (f.waiting.flight_of i r at)

pub tags_done : (w : Workload) (h : List Event) (k : ℕ) (id : ReqId) (ok : Bool) (j : Journaled (List ℕ))
    → IsAccepted w → IsLegal w (h ▹ Done k id ok) → WorkShown w h j → TagsAre h j
    → TagsAre (h ▹ Done k id ok) (after_event w h (Done k id ok) j)
tags_done w h k id ok j accepted legal shown are =
    tags_came w h k id ok j accepted legal shown (came w h (maker (Done k id ok)) (Done k id ok) legal.0) are
