-- The slots of the transactions that are in the journal.
use Rattle.std.proofs.Common.{◌≡◌, ℕ, suc, ◌+◌, ◌<◌, ◌≤◌, List, [], ◌∷◌, slice_get, true, Some, refl, arith, sym, inl, inr, ◌∙◌, ap}
use Rattle.std.proofs.lemmas.Bool.{cases_eq}
use Rattle.split_types.specs.declared.ids.Txn.{Txn}
use Rattle.split_types.specs.declared.request.ReqKind.{ReqKind}
use Rattle.split_types.specs.declared.request.ReqKind.TheVariants.{Log, Commit, Home, Clear}
use Rattle.split_types.specs.declared.request.Request.{Request}
use Rattle.split_types.specs.declared.workload.Workload.{Workload}
use Rattle.split_types.specs.declared.event.Event.{Event}
use Rattle.split_types.specs.Requests.{in_flight, unfinished}
use Rattle.split_types.specs.Rounds.{open_round, seals, slot_of_txn}
use Rattle.split_types.specs.Transactions.{in_journal, oldest_in, is_of_commit, under_way, stage, Stage}
use Rattle.split_types.specs.Transactions.Stage.{Fresh, Sealed, Logging, Committing, Homing, Clearing}
use Rattle.split_types.specs.Proving.Known.{KnownRequests}
use Rattle.split_types.specs.Proving.JournalKnown.{AreInARow, AreOfKind, AreHomes, AtStage, IsOpenAt, JournalKnown}
use Rattle.split_types.proofs.JournalRows.{row_length, row_place, row_most}
use Rattle.split_types.proofs.JournalStepsDone.{flight_left, some_under_way}
use Rattle.split_core.proofs.JournalTagsKept.{IsInJournal}

pub same_txn : (t u : Txn) → t.0 ≡ u.0 → t ≡ u
same_txn t u e = ap (λ n. record { 0 = n }) e

-- ---- which are in the journal
-- that which was sealed last, where it isn't cleared
pub last_there : (w : Workload) (h : List Event) (t : Txn) → (j : JournalKnown w h) → t.0 ≡ seals h → j.cleared < t.0
    → IsInJournal h t
last_there w h t j last above =
    (omega (arith, last), omega (arith, last, above, row_length j.cleared (in_journal h) (seals h) j.row))

-- the first of them
pub oldest_there : (w : Workload) (h : List Event) (t : Txn) → (j : JournalKnown w h)
    → oldest_in (in_journal h) ≡ Some t → IsInJournal h t
oldest_there w h t j is =
    let at = first_in (in_journal h) is
    in (
      row_most j.cleared (in_journal h) (seals h) 0 t j.row at,
      omega (
        arith,
        row_place j.cleared (in_journal h) (seals h) 0 t j.row at,
        row_length j.cleared (in_journal h) (seals h) j.row,
      ),
    )
  where
    first_in : (ts : List Txn) → oldest_in ts ≡ Some t → slice_get ts 0 ≡ Some t
    first_in [] is = absurd (cc)
    first_in (u ∷ ts) is = is

-- each of them stands there
row_there : (low : ℕ) (ts : List Txn) (high : ℕ) (t : Txn) → AreInARow low ts high → low < t.0 → t.0 ≤ high
    → (i : ℕ) × (slice_get ts i ≡ Some t)
row_there low [] high t row above most = absurd (omega (arith, row, above, most))
row_there low (u ∷ ts) high t row above most = elim (cases_eq u.0 t.0) [
  | inl same ↦ (0, ap Some (same_txn u t same))
  | inr other ↦
      (let later = row_there (low + 1) ts high t row.1 (omega (arith, above, row.0, other)) most
      in (suc later.0, later.1))
]

pub stands_there : (w : Workload) (h : List Event) (t : Txn) → JournalKnown w h → IsInJournal h t
    → (i : ℕ) × (slice_get (in_journal h) i ≡ Some t)
stands_there w h t j there =
    row_there j.cleared (in_journal h) (seals h) t j.row
    (omega (arith, there.1, row_length j.cleared (in_journal h) (seals h) j.row)) there.0

-- ---- their slots
pub slot_there : (w : Workload) (h : List Event) (t : Txn) → (j : JournalKnown w h) → IsInJournal h t
    → slot_of_txn h t + j.base + 1 ≡ t.0
slot_there w h t j there =
    j.slots.slot_is t
    (omega (arith, j.slots.order, there.1, row_length j.cleared (in_journal h) (seals h) j.row)) there.0

pub slots_apart : (w : Workload) (h : List Event) (t u : Txn) → JournalKnown w h → IsInJournal h t
    → IsInJournal h u → slot_of_txn h t ≡ slot_of_txn h u → t.0 ≡ u.0
slots_apart w h t u j first second same =
    omega (arith, slot_there w h t j first, slot_there w h u j second, same)

-- ---- while transactions are cleared
-- a request in flight that clears one shows the stage
pub clearing_round : (w : Workload) (h : List Event) (k : ℕ) (r : Request) (u : Txn) → KnownRequests h
    → JournalKnown w h → slice_get (in_flight h) k ≡ Some r → r.kind ≡ Clear u → open_round h ≡ []
clearing_round w h k r u f j at kind = by_stage (stage h) j.stands j.slots.open_is
  where
    place : (i : ℕ) × (slice_get (unfinished h) i ≡ Some r)
    place = flight_left h k r f at

    commits_it : is_of_commit r ≡ true
    commits_it = rw kind refl

    one : 1 ≤ under_way h
    one = some_under_way (unfinished h) place.0 r place.1 commits_it

    other : (kd : ReqKind) → AreOfKind kd (unfinished h) → Clear u ≡ kd
    other kd kinds = sym kind ∙ kinds place.0 r place.1 commits_it

    by_stage : (s : Stage) → AtStage h j.cleared s → IsOpenAt h j.base j.cleared s → open_round h ≡ []
    by_stage Fresh stands opens = absurd (omega (arith, one, stands.0))
    by_stage (Sealed t n) stands opens = absurd (omega (arith, one, stands.0))
    by_stage (Logging t) stands opens = absurd (let e = other (Log t) stands.3 in cc)
    by_stage (Committing t) stands opens = absurd (let e = other (Commit t) stands.3 in cc)
    by_stage (Homing t) stands opens =
        absurd (let e = other (Home t) (let homes : AreHomes h t = stands.2 in homes.kinds) in cc)
    by_stage (Clearing t) stands opens = opens
