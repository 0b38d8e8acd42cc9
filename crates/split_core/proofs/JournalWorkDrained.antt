-- Once nothing is queued or in flight, nothing is marked or in the journal exactly where the running journal has nothing
-- more to do when all calls have returned.
use Rattle.std.proofs.Common.{◌≡◌, ℕ, ◌+◌, ◌==◌, ◌≤◌, List, [], ◌∷◌, length, slice_get, filter, count_by, nat_lt, Bool, true, false, not, ◌&&◌, ◌⊎◌, Option, Some, None, option_map, refl, ap, sym, ◌∙◌, inl, inr, arith, if◌then◌else◌}
use Rattle.std.specs.Prelude.{is_none}
use Rattle.std.specs.Option.{is_some}
use Rattle.std.proofs.lemmas.Bool.{and_right, ne_eqb}
use Rattle.std.proofs.lemmas.Bool.Decides.{nat_tests}
use Rattle.split_types.specs.declared.ids.Txn.{Txn}
use Rattle.split_types.specs.declared.request.Request.{Request}
use Rattle.split_types.specs.declared.request.ReqKind.TheVariants as kind
use Rattle.split_types.specs.declared.buf.Buf.{Buf}
use Rattle.split_types.specs.declared.workload.Workload.{Workload}
use Rattle.split_types.specs.declared.event.Event.{Event}
use Rattle.split_types.specs.Parents.{home_block}
use Rattle.split_types.specs.Requests.{is_numbered, requests, queued, in_flight, unfinished}
use Rattle.split_types.specs.Rounds.{seals, last_txn, slot_of_txn}
use Rattle.split_types.specs.Transactions.{journal_slots, in_journal, oldest_in, is_marked, marked_buffers, awaits_home, next_home, is_of_commit, under_way, stage, Stage}
use Rattle.split_types.specs.Transactions.Stage.{Fresh, Sealed, Logging, Committing, Homing, Clearing}
use Rattle.split_types.specs.Legal.{IsLegal}
use Rattle.split_types.specs.Proving.Known.{KnownRequests}
use Rattle.split_types.specs.Proving.JournalKnown.{AtStage, JournalKnown}
use Rattle.split_types.proofs.Shared.{nothing_left}
use Rattle.split_types.proofs.JournalRows.{row_length}
use Rattle.split_types.proofs.StuckJournal.{used_most}
use Rattle.proxies.specs.declared.commit.Commit.TheVariants.{Idle, Log, Marking, Homes, Clear}
use Rattle.journal_core.specs.declared.work.Due.{Due}
use Rattle.journal_core.specs.declared.work.Work.{Work}
use Rattle.journal_core.specs.Places.{blocks_of}
use Rattle.journal_core.specs.Journaled as journal
use Rattle.journal_core.specs.Journaled.{Journaled}
use Rattle.split_core.proofs.JournalWorkPlaces.{blocks_count, blocks_first}
use Rattle.split_core.proofs.JournalWorkKnown.{Rests, GoesHome, Clears, Works, LeavesHomes, Stands, work_of}
use Rattle.split_core.proofs.JournalWorkNext.{goes, home_due}

-- ---- where nothing is queued or in flight
pub none_under_way : (h : List Event) → KnownRequests h → queued h ≡ [] → in_flight h ≡ [] → under_way h ≡ 0
none_under_way h f none quiet =
    let left : unfinished h ≡ [] = nothing_left (requests h) (unfinished h) (λ id. omega (
      arith,
      f.waiting.left_once id,
      ap (count_by (is_numbered id)) none,
      ap (count_by (is_numbered id)) quiet,
    )) in
    ap (λ (l : List Request). length (filter is_of_commit l)) left

-- ---- an idle journal
-- where some slot is used, a home is left
rest_drained : (n used slots marked : ℕ) (home : Option ℕ) → used ≤ slots → 1 ≤ slots
    → (used ≡ 0) ⊎ (is_some home ≡ true)
    → (marked == 0 && used == 0)
    ≡ (not (nat_lt 0 marked && nat_lt used slots)
    && is_none (if not (goes used slots marked true) then None else home_due n home))
rest_drained n used slots marked home most some (inl none) =
    by_goes (goes used slots marked true) (grind (arith, nat_tests, none))
  where
    by_goes : (g : Bool) → g ≡ false
        → (marked == 0 && used == 0)
        ≡ (not (nat_lt 0 marked && nat_lt used slots) && is_none (if not g then None else home_due n home))
    by_goes true is = absurd (cc)
    by_goes false is = grind (arith, nat_tests, none)
rest_drained n used slots marked (Some block) most some (inr left) = by_goes (goes used slots marked true) refl
  where
    by_goes : (g : Bool) → goes used slots marked true ≡ g
        → (marked == 0 && used == 0)
        ≡ (not (nat_lt 0 marked && nat_lt used slots) && is_none (if not g then None else home_due n (Some block)))
    by_goes true is = grind (arith, nat_tests, is)
    by_goes false is = grind (arith, nat_tests, is)
rest_drained n used slots marked None most some (inr left) = absurd (cc)

slots_some : (w : Workload) → 1 ≤ journal_slots w
slots_some w = by_test (nat_lt w.version 2)
  where
    by_test : (b : Bool) → 1 ≤ (if b then 1 else 4)
    by_test true = omega arith
    by_test false = omega arith

first_some : (blocks : List ℕ) → 1 ≤ length blocks → is_some (slice_get blocks 0) ≡ true
first_some [] some = absurd (omega (arith, some))
first_some (x ∷ blocks) some = refl

module _ (w : Workload) (h : List Event) (j : Journaled (List ℕ)) (known : JournalKnown w h) (s : Stands w h j)
    (legal : IsLegal w h) where
  abbrev Drained : Work → Type 0
  Drained work =
      (length (marked_buffers h) == 0 && length (in_journal h) == 0)
      ≡ (not (journal.can_seal (record j { work = work })) && is_none (journal.next_due (record j { work = work }) true))

  at_work : (work : Work) → j.work ≡ work → Drained work → Drained j.work
  at_work work is drained =
      drained
      ∙ ap (λ (x : Work).
      not (journal.can_seal (record j { work = x })) && is_none (journal.next_due (record j { work = x }) true)) (sym is)

  -- some transaction is in the journal
  held : 1 ≤ length (in_journal h) → (length (marked_buffers h) == 0 && length (in_journal h) == 0) ≡ false
  held some =
      and_right (length (marked_buffers h) == 0) (length (in_journal h) == 0)
      (ne_eqb (length (in_journal h)) 0 (λ none. omega (arith, some, none)))

  rest : (length (in_journal h) ≡ 0) ⊎ (is_some (journal.next_home j) ≡ true) → Rests h j.work → Drained j.work
  rest left works =
      at_work (work_of Idle 0 (seals h) (seals h) (length (in_journal h))) works
      (rest_drained (seals h) (length (in_journal h)) (journal_slots w) (length (marked_buffers h)) (journal.next_home j)
      (used_most w h legal) (slots_some w) left
      ∙ ap (λ n. not (nat_lt 0 n && nat_lt (length (in_journal h)) (journal_slots w))
      && is_none (if not (goes (length (in_journal h)) (journal_slots w) n true) then None
      else home_due (seals h) (journal.next_home j)))
      (sym (blocks_count (is_marked h) j.marks s.marks_long s.marks_are))
      ∙ ap (λ n. not (nat_lt 0 (journal.marked_count j) && nat_lt (length (in_journal h)) n)
      && is_none (if not (goes (length (in_journal h)) n (journal.marked_count j) true) then None
      else home_due (seals h) (journal.next_home j)))
      (sym s.slots_long))

  long : known.cleared + length (in_journal h) ≡ seals h
  long = row_length known.cleared (in_journal h) (seals h) known.row

  clear : under_way h ≡ 0 → Clears h j.work → Drained j.work
  clear none works =
      at_work (work_of (Clear works.txn (slot_of_txn h works.txn)) 0 (seals h) (seals h)
      (slot_of_txn h (last_txn h) + 1))
      (works.work_is
      ∙ ap (λ n. work_of (Clear works.txn (slot_of_txn h works.txn)) n (seals h) (seals h)
      (slot_of_txn h (last_txn h) + 1)) none)
      (held (some_held (in_journal h) works.oldest))
    where
      some_held : (ts : List Txn) → oldest_in ts ≡ Some works.txn → 1 ≤ length ts
      some_held [] is = absurd (cc)
      some_held (t ∷ ts) is = omega arith

  home : (t : Txn) → under_way h ≡ 0 → 1 ≤ length (in_journal h) → GoesHome h j.work t → Drained j.work
  home t none some works = by_home (next_home h) refl
    where
      left : journal.next_home j ≡ option_map home_block (next_home h)
      left = blocks_first (awaits_home h) j.round s.round_long s.round_is

      by_home : (o : Option Buf) → next_home h ≡ o → Drained j.work
      by_home None is = absurd (omega (arith, none, works.some is))
      by_home (Some b) is =
          at_work (work_of (Homes t works.slot works.added) (under_way h) (seals h) (seals h) (length (in_journal h)))
          works.work_is
          (held some
          ∙ ap (λ o. is_none {T = Due} (option_map (λ block. record { kind = kind.Home t; first = block; n = 1 }) o))
          (sym (left ∙ ap (option_map home_block) is)))

  pub drained : under_way h ≡ 0 → Drained j.work
  drained none = by_stage (stage h) known.stands s.works s.homes
    where
      by_stage : (t : Stage) → AtStage h known.cleared t → Works h j.work (length j.logged) t
          → LeavesHomes (length (blocks_of j.round)) t → Drained j.work
      by_stage Fresh at works homes = rest (inl (omega (arith, long, at.1))) works
      by_stage (Sealed t k) at works homes =
          at_work (work_of (Log t (slot_of_txn h t)) 0 (seals h) works.0.committed (length (in_journal h)))
          works.0.work_is (held (omega (arith, long, at.1, at.2)))
      by_stage (Logging t) at (inl works) homes = absurd (omega (arith, none, works.0))
      by_stage (Logging t) at (inr works) homes =
          at_work (work_of (Marking t (slot_of_txn h t)) 0 (seals h) works.1.committed (length (in_journal h)))
          works.1.work_is (held (omega (arith, long, at.1, at.2)))
      by_stage (Committing t) at (inl works) homes = absurd (omega (arith, none, works.0))
      by_stage (Committing t) at (inr works) homes = rest (inr (first_some (blocks_of j.round) homes)) works.1
      by_stage (Homing t) at (inl works) homes = home t none (omega (arith, long, at.0, at.1)) works
      by_stage (Homing t) at (inr works) homes = clear works.1 works.2
      by_stage (Clearing t) at (inl works) homes = clear none works
      by_stage (Clearing t) at (inr works) homes = rest (inl (ap length works.1)) works.2
