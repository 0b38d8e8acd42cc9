-- The tags of the journal over the add of a request.
use Rattle.std.proofs.Common.{◌≡◌, ℕ, ◌+◌, ◌-◌, ◌<◌, ◌≤◌, List, [], length, get_or, set, true, false, Option, Some, None, refl, arith, subst, sym, inl, inr, ◌∙◌, ap}
use Rattle.std.proofs.lemmas.Bool.{cases_eq, cond-true, cond-false, eq-eqb, ne_eqb}
use Rattle.std.proofs.lemmas.List.{length-set, get_or-set_same, get_or-set_other}
use Rattle.std.proofs.lemmas.Option.{same_Some}
use Rattle.split_types.specs.declared.ids.Txn.{Txn}
use Rattle.split_types.specs.declared.actor.Actor.{Actor}
use Rattle.split_types.specs.declared.actor.Actor.TheVariants.{Cm}
use Rattle.split_types.specs.declared.buf.Buf.{Buf}
use Rattle.split_types.specs.declared.buf.Buf.TheVariants.{Page, Bitmap, Dir, Inode}
use Rattle.split_types.specs.declared.request.ReqKind.{ReqKind}
use Rattle.split_types.specs.declared.request.ReqKind.TheVariants as kind
use Rattle.split_types.specs.declared.request.Request.{Request}
use Rattle.split_types.specs.declared.workload.Workload.{Workload}
use Rattle.split_types.specs.declared.event.Event.{Event}
use Rattle.split_types.specs.declared.event.Event.TheVariants.{Add}
use Rattle.split_types.specs.History.{◌▹◌, adds}
use Rattle.split_types.specs.ByPlace.{IsMetadata}
use Rattle.split_types.specs.Hooks.{maker, covers}
use Rattle.split_types.specs.OpenDirtyings.{open_at}
use Rattle.split_types.specs.Parents.{buffer_at, home_block}
use Rattle.split_types.specs.Rounds.{is_clear, open_round}
use Rattle.split_types.specs.Transactions.{brings_home, awaiting_at, is_of_commit}
use Rattle.split_types.specs.Accepted.{IsAccepted}
use Rattle.split_types.specs.Legal.{IsLegal}
use Rattle.split_types.specs.Proving.Came.{Came, Journals, IsHomeOf, IsClearOf, journal_request}
use Rattle.split_types.specs.Proving.Came.Came.{came_load, came_add, came_journal}
use Rattle.split_types.specs.Proving.JournalKnown.{JournalKnown}
use Rattle.split_types.proofs.CameLaws.{came}
use Rattle.split_types.proofs.CausesLaws.{blames-stay}
use Rattle.split_types.proofs.JournalStepsAdds.{journal_known}
use Rattle.split_types.proofs.KeptLists.{case_true, case_false}
use Rattle.proxies.specs.declared.commit.Commit.{Commit}
use Rattle.proxies.specs.declared.commit.Commit.TheVariants.{Idle, Log, Marking, Homes, Clear}
use Rattle.journal_core.specs.Causes.{together}
use Rattle.journal_core.specs.Work.{begun, one_more, slot_in}
use Rattle.journal_core.specs.Journaled.{Journaled, next_home, without, carried_place, after_added}
use Rattle.split_core.specs.Journaling.{after_event}
use Rattle.split_core.proofs.JournalShown.{WorkShown}
use Rattle.split_core.proofs.JournalTagsPlaces.{block_at}
use Rattle.split_core.proofs.JournalTagsKept.{RoundIs, StageIs, TagsAre, blamed, awaiting_below, marks_stay, round_stays, slots_stay, tags_stay}
use Rattle.split_core.proofs.JournalTagsSlots.{oldest_there}
use Rattle.split_core.proofs.JournalTagsWaits.{home_some}
use Rattle.split_core.proofs.JournalTagsNext.{IsDue, due_as}

-- ---- open dirtyings
-- no request takes a buffer of metadata out
covers_no : (r : Request) (b : Buf) → IsMetadata b → covers r b ≡ false
covers_no r b metadata = by_kind r.kind refl b metadata
  where
    by_kind : (k : ReqKind) → r.kind ≡ k → (b : Buf) → IsMetadata b → covers r b ≡ false
    by_kind (kind.Pages s g) is (Page t i) metadata = absurd metadata
    by_kind (kind.Pages s g) is Bitmap metadata = rw is refl
    by_kind (kind.Pages s g) is (Dir i) metadata = rw is refl
    by_kind (kind.Pages s g) is (Inode t) metadata = rw is refl
    by_kind (kind.Read p s g) is b metadata = rw is refl
    by_kind (kind.Log t) is b metadata = rw is refl
    by_kind (kind.Commit t) is b metadata = rw is refl
    by_kind (kind.Home t) is b metadata = rw is refl
    by_kind (kind.Clear t) is b metadata = rw is refl

opens_add : (h : List Event) (by : Actor) (r : Request) (b : Buf) → IsMetadata b
    → open_at (h ▹ Add by r) b ≡ open_at h b
opens_add h by r b metadata = cond-false (covers r b) [] (open_at h b) (covers_no r b metadata)

-- ---- what the round took
-- the request brings home the buffer of its block alone
brings_here : (id : ℕ) (t : Txn) (first n k : ℕ) → first ≡ k + 1
    → brings_home (journal_request id (kind.Home t) first n) (buffer_at (k + 1)) ≡ true
brings_here id t first n k same = eq-eqb first (home_block (buffer_at (k + 1))) (same ∙ sym (block_at k))

brings_other : (id : ℕ) (t : Txn) (first n k : ℕ) → (first ≡ k + 1 → ⊥)
    → brings_home (journal_request id (kind.Home t) first n) (buffer_at (k + 1)) ≡ false
brings_other id t first n k other =
    ne_eqb first (home_block (buffer_at (k + 1)))
    (λ (e : first ≡ home_block (buffer_at (k + 1))). other (e ∙ block_at k))

round_home : (w : Workload) (h : List Event) (t : Txn) (first n : ℕ) (round : List (Option (List ℕ))) → IsAccepted w
    → IsLegal w h → 1 ≤ first → RoundIs h round
    → RoundIs (h ▹ Add Cm (journal_request (adds h) (kind.Home t) first n)) (set round (first - 1) None)
round_home w h t first n round accepted legal some is = record {
  long = length-set round (first - 1) None ∙ is.long;
  each = λ k below. elim (cases_eq first (k + 1)) [
    | inl same ↦
        ap (λ m. get_or (set round m None) k None) (let at : first - 1 ≡ k = omega arith in at)
        ∙ get_or-set_same round k None None (omega (arith, is.long, below))
        ∙ sym (ap (blamed later)
        (case_true (brings_home r (buffer_at (k + 1))) [] (awaiting_at h (buffer_at (k + 1)))
        (brings_here (adds h) t first n k same)))
    | inr other ↦
        get_or-set_other round (first - 1) k None None (λ (e : k ≡ first - 1). other (omega arith))
        ∙ is.each k below
        ∙ sym (ap (blamed later)
        (case_false (brings_home r (buffer_at (k + 1))) [] (awaiting_at h (buffer_at (k + 1)))
        (brings_other (adds h) t first n k other))
        ∙ kept k below)
  ];
}
  where
    r : Request
    r = journal_request (adds h) (kind.Home t) first n

    later : List Event
    later = h ▹ Add Cm r

    kept : (k : ℕ) → k < 261 → blamed later (awaiting_at h (buffer_at (k + 1)))
        ≡ blamed h (awaiting_at h (buffer_at (k + 1)))
    kept k below =
        ap together
        (blames-stay h (Add Cm r) (awaiting_at h (buffer_at (k + 1)))
        (awaiting_below w h (buffer_at (k + 1)) accepted legal))

awaits_add : (h : List Event) (by : Actor) (r : Request) (b : Buf) → brings_home r b ≡ false
    → awaiting_at (h ▹ Add by r) b ≡ awaiting_at h b
awaits_add h by r b none = case_false (brings_home r b) [] (awaiting_at h b) none

round_added : (w : Workload) (h : List Event) (k : ReqKind) (first n logged : ℕ) (s : Commit ℕ) (home : Option ℕ)
    (round : List (Option (List ℕ))) → IsAccepted w → IsLegal w h → Journals w h k first n
    → IsDue s logged home k first n → RoundIs h round
    → RoundIs (h ▹ Add Cm (journal_request (adds h) k first n)) (without (carried_place (slot_in s) home) round)
round_added w h k first n logged Idle home round accepted legal next due is = absurd due
round_added w h k first n logged (Homes t slot added) None round accepted legal next due is =
    absurd (let e = due.1 in cc)
round_added w h k first n logged (Homes t slot added) (Some block) round accepted legal next due is =
    let same : block ≡ first = same_Some block first due.1
    in subst (λ m. RoundIs (h ▹ Add Cm (journal_request (adds h) k first n)) (set round (m - 1) None)) (sym same)
    (subst (λ x. RoundIs (h ▹ Add Cm (journal_request (adds h) x first n)) (set round (first - 1) None)) (sym due.0)
    (round_home w h t first n round accepted legal (some (subst (λ x. Journals w h x first n) due.0 next)) is))
  where
    some : IsHomeOf w h t first n → 1 ≤ first
    some home = omega (arith, home.place, home_some h home.buffer home.awaits)
round_added w h k first n logged (Log t slot) home round accepted legal next due is =
    round_stays w h (Add Cm (journal_request (adds h) k first n)) round accepted legal
    (λ b metadata. awaits_add h Cm (journal_request (adds h) k first n) b (rw due.0 refl)) is
round_added w h k first n logged (Marking t slot) home round accepted legal next due is =
    round_stays w h (Add Cm (journal_request (adds h) k first n)) round accepted legal
    (λ b metadata. awaits_add h Cm (journal_request (adds h) k first n) b (rw due.0 refl)) is
round_added w h k first n logged (Clear t slot) home round accepted legal next due is =
    round_stays w h (Add Cm (journal_request (adds h) k first n)) round accepted legal
    (λ b metadata. awaits_add h Cm (journal_request (adds h) k first n) b (rw due.0 refl)) is

-- ---- what commit is doing
begun_is : (h : List Event) (used unfinished sealed committed : ℕ) (s : Commit ℕ) → StageIs h used unfinished s
    → StageIs h used unfinished (begun (record {
      stage = s;
      unfinished = unfinished;
      sealed = sealed;
      committed = committed;
      used = used;
    }))
begun_is h used unfinished sealed committed Idle is = is
begun_is h used unfinished sealed committed (Log t slot) is = is
begun_is h used unfinished sealed committed (Marking t slot) is = is
begun_is h used unfinished sealed committed (Homes t slot added) is = is
begun_is h used unfinished sealed committed (Clear t slot) is = is

-- no clear request ends no round
same_round : (h : List Event) (r : Request) → is_clear r ≡ false → open_round (h ▹ Add Cm r) ≡ open_round h
same_round h r none = cond-false (is_clear r) [] (open_round h) none

stage_added : (w : Workload) (h : List Event) (k : ReqKind) (first n logged used unfinished : ℕ) (s : Commit ℕ)
    (home : Option ℕ) → JournalKnown w h → Journals w h k first n → IsDue s logged home k first n
    → StageIs h used unfinished s
    → StageIs (h ▹ Add Cm (journal_request (adds h) k first n)) used (unfinished + 1) (one_more s)
stage_added w h k first n logged used unfinished Idle home j next due is = absurd due
stage_added w h k first n logged used unfinished (Log t slot) home j next due is =
    is ∙ sym (ap length (same_round h (journal_request (adds h) k first n) (rw due.0 refl)))
stage_added w h k first n logged used unfinished (Marking t slot) home j next due is =
    is ∙ sym (ap length (same_round h (journal_request (adds h) k first n) (rw due.0 refl)))
stage_added w h k first n logged used unfinished (Homes t slot added) home j next due is =
    is ∙ sym (ap length (same_round h (journal_request (adds h) k first n) (rw due.0 refl)))
stage_added w h k first n logged used unfinished (Clear t slot) home j next due is =
    λ some. (omega (arith, due.1, clears.place), oldest_there w h t j clears.oldest)
  where
    clears : IsClearOf h t first n
    clears = subst (λ x. Journals w h x first n) due.0 next

-- ---- the whole
-- an add of the journal
tags_journal : (w : Workload) (h : List Event) (k : ReqKind) (first n : ℕ) (j : Journaled (List ℕ)) → IsAccepted w
    → IsLegal w h → Journals w h k first n
    → IsDue (begun j.work) (length j.logged) (next_home j) k first n → TagsAre h j
    → TagsAre (h ▹ Add Cm (journal_request (adds h) k first n)) (after_added j)
tags_journal w h k first n j accepted legal next due are =
    let e = Add Cm (journal_request (adds h) k first n)
    in record {
      marks = marks_stay h e j.marks (opens_add h Cm (journal_request (adds h) k first n)) are.marks;
      round = round_added w h k first n (length j.logged) (begun j.work) (next_home j) j.round accepted legal next due
          are.round;
      slots =
          slots_stay h e j.slots
          (record { fewer = λ t there. there; slot_is = λ t. refl; place_is = λ t. refl }) are.slots;
      stage =
          stage_added w h k first n (length j.logged) j.work.used j.work.unfinished (begun j.work) (next_home j)
          (journal_known w h accepted legal) next due
          (begun_is h j.work.used j.work.unfinished j.work.sealed j.work.committed j.work.stage are.stage);
    }

-- one of another actor
record MovesPages (r : Request) : Type 0 where
  none : is_of_commit r ≡ false
  brings : (b : Buf) → brings_home r b ≡ false
  clears : is_clear r ≡ false

tags_pages : (w : Workload) (h : List Event) (by : Actor) (r : Request) (j : Journaled (List ℕ)) → IsAccepted w
    → IsLegal w h → MovesPages r → TagsAre h j → TagsAre (h ▹ Add by r) (after_event w h (Add by r) j)
tags_pages w h by r j accepted legal moves are =
    subst (TagsAre (h ▹ Add by r)) (sym (cond-false (is_of_commit r) (after_added j) j moves.none))
    (tags_stay w h (Add by r) j accepted legal (opens_add h by r)
    (record {
      awaits = λ b. awaits_add h by r b (moves.brings b);
      round = cond-false (is_clear r) [] (open_round h) moves.clears;
      sealed = refl;
      journal = refl;
      slot = λ t. refl;
      place = λ t. refl;
    }) are)

tags_came : (w : Workload) (h : List Event) (by : Actor) (r : Request) (j : Journaled (List ℕ)) → IsAccepted w
    → IsLegal w (h ▹ Add by r) → WorkShown w h j → Came w h (Add by r) → TagsAre h j
    → TagsAre (h ▹ Add by r) (after_event w h (Add by r) j)
tags_came w h by r j accepted legal shown (came_load p c s piece here absent block at) are =
    tags_pages w h by r j accepted legal.1 (record { none = refl; brings = λ b. refl; clears = refl }) are
tags_came w h by r j accepted legal shown (came_add run block at there placed long) are =
    tags_pages w h by r j accepted legal.1 (record { none = refl; brings = λ b. refl; clears = refl }) are
tags_came w h by r j accepted legal shown (came_journal k first n next) are =
    subst (TagsAre (h ▹ Add by r))
    (sym (cond-true (is_of_commit (journal_request (adds h) k first n)) (after_added j) j (of_commit k next)))
    (tags_journal w h k first n j accepted legal.1 next
    (due_as w h j (journal_request (adds h) k first n) shown legal.0) are)
  where
    of_commit : (k : ReqKind) → Journals w h k first n → is_of_commit (journal_request (adds h) k first n) ≡ true
    of_commit (kind.Read p s g) next = absurd next
    of_commit (kind.Pages s g) next = absurd next
    of_commit (kind.Log t) next = refl
    of_commit (kind.Commit t) next = refl
    of_commit (kind.Home t) next = refl
    of_commit (kind.Clear t) next = refl

pub tags_add : (w : Workload) (h : List Event) (by : Actor) (r : Request) (j : Journaled (List ℕ)) → IsAccepted w
    → IsLegal w (h ▹ Add by r) → WorkShown w h j → TagsAre h j
    → TagsAre (h ▹ Add by r) (after_event w h (Add by r) j)
tags_add w h by r j accepted legal shown are =
    tags_came w h by r j accepted legal shown (came w h (maker (Add by r)) (Add by r) legal.0) are
