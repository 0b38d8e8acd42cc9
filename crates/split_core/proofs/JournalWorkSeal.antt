-- What the journal has to do with a history, over a seal: what was marked awaits its home, and the log comes next.
use Rattle.std.proofs.Common.{◌≡◌, ℕ, zero, suc, ◌+◌, ◌==◌, List, [], ◌∷◌, ◌++◌, length, get_or, nat_lt, replicate, ◌||◌, Option, Some, None, refl, ap, sym, subst, ◌∙◌, inl, inr, arith, length-set}
use Rattle.std.specs.Option.{is_some}
use Rattle.std.proofs.lemmas.Bool.{lt-ltb, eq-eqb}
use Rattle.std.proofs.lemmas.List.{length-replicate, length_push}
use Rattle.split_types.specs.declared.ids.Txn.{Txn}
use Rattle.split_types.specs.declared.buf.Buf.{Buf}
use Rattle.split_types.specs.declared.buf.Buf.TheVariants.{Page, Bitmap, Dir, Inode}
use Rattle.split_types.specs.declared.workload.Workload.{Workload}
use Rattle.split_types.specs.declared.event.Event.{Event}
use Rattle.split_types.specs.declared.event.Event.TheVariants.{Seal}
use Rattle.split_types.specs.History.{◌▹◌}
use Rattle.split_types.specs.OpenDirtyings.{open_at}
use Rattle.split_types.specs.ByPlace.{IsMetadata}
use Rattle.split_types.specs.LiveFiles.{Slots}
use Rattle.split_types.specs.Rounds.{open_round, seals, next_txn, slot_of_txn}
use Rattle.split_types.specs.Transactions.{in_journal, oldest_in, is_marked, marked_buffers, awaiting_at, awaits_home, stage}
use Rattle.split_types.specs.Transactions.Stage.{Committing, Homing, Clearing}
use Rattle.split_types.specs.Proving.Came.{IsIdle, MaySeal}
use Rattle.split_types.specs.Proving.Came.IsIdle.{idle_fresh, idle_committed, idle_homed, idle_cleared}
use Rattle.split_types.specs.Proving.JournalKnown.{AtStage, JournalKnown}
use Rattle.split_types.proofs.Shared.{case_true}
use Rattle.split_types.proofs.JournalRows.{row_length}
use Rattle.split_types.proofs.JournalStepsSeal.{Rested, rested}
use Rattle.proxies.specs.declared.commit.Commit.TheVariants.{Log}
use Rattle.journal_core.specs.declared.work.Work.{Work}
use Rattle.journal_core.specs.Causes.{joined_all}
use Rattle.journal_core.specs.Places.{place_of, blocks_of}
use Rattle.journal_core.specs.Work.{sealed_work}
use Rattle.journal_core.specs.Journaled.{Journaled, after_seal}
use Rattle.split_core.proofs.JournalWorkPlaces.{blocks_count, joined_long, joined_some, joined_blocks}
use Rattle.split_core.proofs.JournalWorkKnown.{AreFor, Rests, Writes, Works, Stands, work_of}

-- ---- where the commit thread is idle
-- the transactions in the journal are those behind the last that was cleared
none_held : (h : List Event) → oldest_in (in_journal h) ≡ None → in_journal h ≡ []
none_held h is = go (in_journal h) is
  where
    go : (ts : List Txn) → oldest_in ts ≡ None → ts ≡ []
    go [] is = refl
    go (t ∷ ts) is = absurd (cc)

pub rests_idle : (w : Workload) (h : List Event) (work : Work) (logged : ℕ) → IsIdle h → JournalKnown w h
    → Works h work logged (stage h) → Rests h work
rests_idle w h work logged (idle_fresh is) j works = subst (Works h work logged) is works
rests_idle w h work logged (idle_committed t is done) j works = by_case (subst (Works h work logged) is works)
  where
    by_case : Works h work logged (Committing t) → Rests h work
    by_case (inl one) = absurd (omega (arith, done, one.0))
    by_case (inr rests) = rests.1
rests_idle w h work logged (idle_homed t is done none oldest) j works =
    let at : AtStage h j.cleared (Homing t) = subst (AtStage h j.cleared) is j.stands in
    absurd (omega (
      arith,
      at.0,
      at.1,
      row_length j.cleared (in_journal h) (seals h) j.row,
      ap length (none_held h oldest),
    ))
rests_idle w h work logged (idle_cleared t is done oldest) j works = by_case (subst (Works h work logged) is works)
  where
    by_case : Works h work logged (Clearing t) → Rests h work
    by_case (inl clears) = absurd (let some : Some clears.txn ≡ None = sym clears.oldest ∙ oldest in cc)
    by_case (inr rests) = rests.2

-- the slot of the next seal is that behind all that are in use
next_slot : (w : Workload) (h : List Event) → IsIdle h → JournalKnown w h → length (open_round h) ≡ length (in_journal h)
next_slot w h idle j = by_round (rested w h idle j)
  where
    by_round : Rested h j.base j.cleared → length (open_round h) ≡ length (in_journal h)
    by_round rest = elim rest.round [
      | inl on ↦ omega (arith, on.1, row_length j.cleared (in_journal h) (seals h) j.row)
      | inr anew ↦ ap length anew.1 ∙ sym (ap length anew.0)
    ]

-- ---- what is marked and what awaits its home
pub none_at : {X : Type 0} (n i : ℕ) → get_or {A = Option X} (replicate n None) i None ≡ None
none_at zero i = refl
none_at (suc n) zero = refl
none_at (suc n) (suc i) = none_at n i

none_marked : (h : List Event) (t : Txn) (k n : ℕ) (b : Buf) → IsMetadata b
    → is_some (get_or {A = Option (List ℕ)} (replicate n None) (place_of b) None) ≡ is_marked (h ▹ Seal t k) b
none_marked h t k n (Page s g) is = absurd (is)
none_marked h t k n Bitmap is = ap is_some (none_at n (place_of Bitmap))
none_marked h t k n (Dir i) is = ap is_some (none_at n (place_of (Dir i)))
none_marked h t k n (Inode slot) is = ap is_some (none_at n (place_of (Inode slot)))

awaits_joined : (xs ys : List ℕ) → (nat_lt 0 (length xs) || nat_lt 0 (length ys)) ≡ nat_lt 0 (length (xs ++ ys))
awaits_joined [] ys = refl
awaits_joined (x ∷ xs) ys =
    ap (λ b. b || nat_lt 0 (length ys)) (lt-ltb 0 (length (x ∷ xs)) (omega arith))
    ∙ sym (lt-ltb 0 (length (x ∷ xs ++ ys)) (omega arith))

sealed_round : (h : List Event) (t : Txn) (k : ℕ) (round marks : List (Option (List ℕ)))
    → length round ≡ length marks → AreFor (awaits_home h) round → AreFor (is_marked h) marks
    → AreFor (awaits_home (h ▹ Seal t k)) (joined_all round marks)
sealed_round h t k round marks long homes are b is =
    joined_some round marks (place_of b) long
    ∙ ap (λ x. x || is_some (get_or round (place_of b) None)) (are b is)
    ∙ ap (λ x. is_marked h b || x) (homes b is)
    ∙ awaits_joined (open_at h b) (awaiting_at h b)

-- ---- the work
sealed_writes : (w : Workload) (h : List Event) (work : Work) (k : ℕ) → IsIdle h → JournalKnown w h → Rests h work
    → Writes (h ▹ Seal (next_txn h) k) (sealed_work work)
    (Log (next_txn h) (slot_of_txn (h ▹ Seal (next_txn h) k) (next_txn h))) 0
sealed_writes w h work k idle j rests = record {
  committed = seals h;
  before = refl;
  work_is =
      ap sealed_work rests
      ∙ ap (λ n. work_of (Log (next_txn h) n) 0 (seals h + 1) (seals h) (length (in_journal h) + 1)) (sym slot)
      ∙ ap (work_of (Log (next_txn h) (slot_of_txn (h ▹ Seal (next_txn h) k) (next_txn h))) 0 (seals h + 1) (seals h))
      (sym (length_push (in_journal h) (next_txn h)));
}
  where
    slot : slot_of_txn (h ▹ Seal (next_txn h) k) (next_txn h) ≡ length (in_journal h)
    slot =
        case_true (seals h + 1 == seals h + 1) (length (open_round h)) (slot_of_txn h (next_txn h))
        (eq-eqb (seals h + 1) (seals h + 1) refl)
        ∙ next_slot w h idle j

pub stands_seal : (w : Workload) (h : List Event) (first : ℕ) (files : Slots) (j : Journaled (List ℕ)) → MaySeal w h
    → JournalKnown w h → Stands w h j
    → Stands w (h ▹ Seal (next_txn h) (length (marked_buffers h))) (after_seal first files j)
stands_seal w h first files j may known s = record {
  marks_long = length-replicate {A = Option (List ℕ)} (length j.marks) None ∙ s.marks_long;
  round_long = joined_long j.round j.marks long ∙ s.round_long;
  slots_long = length-set j.slots j.work.used _ ∙ s.slots_long;
  marks_are = none_marked h (next_txn h) (length (marked_buffers h)) (length j.marks);
  round_is =
      sealed_round h (next_txn h) (length (marked_buffers h)) j.round j.marks long s.round_is s.marks_are;
  works = (
    sealed_writes w h j.work (length (marked_buffers h)) may.idle known
        (rests_idle w h j.work (length j.logged) may.idle known s.works),
    count,
  );
  homes = omega (arith, may.some, count, joined_blocks j.round j.marks 1 long);
  begin = λ i r at commits. tt;
  committed = s.committed;
}
  where
    long : length j.round ≡ length j.marks
    long = s.round_long ∙ sym s.marks_long

    count : length (blocks_of j.marks) ≡ length (marked_buffers h)
    count = blocks_count (is_marked h) j.marks s.marks_long s.marks_are
