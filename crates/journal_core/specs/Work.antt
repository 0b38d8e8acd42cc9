-- What commit is doing, how far the transactions have come, and what becomes of both.
use Rattle.std.specs.Prelude.{◌≡◌, ℕ, ◌+◌, ◌-◌, ◌^◌, ◌<◌, ◌≤◌, ◌==◌, Bool, true, false, ◌||◌, nat_lt, if◌then◌else◌, Option, Some, None}
use Rattle.std.specs.Option.{option_map}
use Rattle.split_types.specs.declared.ids.Txn.{Txn}
use Rattle.split_types.specs.declared.request.ReqKind.{ReqKind}
use Rattle.split_types.specs.declared.request.ReqKind.TheVariants as kind
use Rattle.proxies.specs.declared.commit.Commit.{Commit}
use Rattle.proxies.specs.declared.commit.Commit.TheVariants.{Idle, Log, Marking, Homes, Clear}
use Rattle.journal_core.specs.declared.work.Work.{Work}
use Rattle.journal_core.specs.declared.work.Due.{Due}
use Rattle.journal_core.specs.Slots.{descriptor_at, commit_at}

-- the transaction of a number
abbrev pub txn : ℕ → Txn
txn t = record { 0 = t }

-- nothing was sealed
abbrev pub no_work : Work
no_work = record { stage = Idle; unfinished = 0; sealed = 0; committed = 0; used = 0 }

abbrev pub is_idle : Commit ℕ → Bool
is_idle Idle = true
is_idle stage = false

-- ---- what becomes of it

-- the next transaction is sealed, into the next slot: its log comes first
abbrev pub sealed_work : Work → Work
sealed_work w = record {
  stage = Log (txn (w.sealed + 1)) w.used;
  unfinished = 0;
  sealed = w.sealed + 1;
  committed = w.committed;
  used = w.used + 1;
}

-- what commit does when it adds a request: from Idle it begins with the homes of the round
abbrev pub begun : Work → Commit ℕ
begun w = by_stage w.stage where
  by_stage : Commit ℕ → Commit ℕ
  by_stage Idle = Homes (txn w.sealed) (w.used - 1) 0
  by_stage (Log t slot) = Log t slot
  by_stage (Marking t slot) = Marking t slot
  by_stage (Homes t slot added) = Homes t slot added
  by_stage (Clear t slot) = Clear t slot

abbrev pub one_more : Commit ℕ → Commit ℕ
one_more (Homes t slot added) = Homes t slot (added + 1)
one_more Idle = Idle
one_more (Log t slot) = Log t slot
one_more (Marking t slot) = Marking t slot
one_more (Clear t slot) = Clear t slot

-- its next request was added
abbrev pub added_work : Work → Work
added_work w = record w { stage = one_more (begun w); unfinished = w.unfinished + 1 }

-- one of its requests is done. The log's is followed by the commit block, and that one's by Idle: the transaction is
-- committed. The last home's is followed by the clear of the round's first transaction, a clear's by the next one's,
-- and the last one's by Idle and a new round. `more` says whether homes are left to be added
abbrev pub done_work : Bool → Work → Work
done_work more w = by_stage w.stage where
  by_stage : Commit ℕ → Work
  by_stage Idle = w
  by_stage (Log t slot) = record w { stage = Marking t slot; unfinished = 0 }
  by_stage (Marking t slot) = record w { stage = Idle; unfinished = 0; committed = t.0 }
  by_stage (Homes t slot added) =
      if more || nat_lt 1 w.unfinished
      then record w { unfinished = w.unfinished - 1 }
      else record w { stage = Clear (txn (w.sealed + 1 - w.used)) 0; unfinished = 0 }
  by_stage (Clear t slot) =
      if nat_lt (slot + 1) w.used
      then record w { stage = Clear (txn (t.0 + 1)) (slot + 1); unfinished = 0 }
      else record w { stage = Idle; unfinished = 0; used = 0 }

-- ---- which request comes next

-- a request that is added alone, where none is under way
abbrev pub alone : ℕ → ReqKind → ℕ → ℕ → Option Due
alone unfinished k first n = if unfinished == 0 then Some (record { kind = k; first = first; n = n }) else None

-- the next request of a stage: a log has a descriptor and the images of all logged buffers, and goes to its slot; homes
-- go one after another, without waiting for each other, to the next home block, if there is one
abbrev pub due_in : Commit ℕ → ℕ → ℕ → Option ℕ → Option Due
due_in Idle unfinished logged home = None
due_in (Log t slot) unfinished logged home = alone unfinished (kind.Log t) (descriptor_at slot) (logged + 1)
due_in (Marking t slot) unfinished logged home = alone unfinished (kind.Commit t) (commit_at slot) 1
due_in (Homes t slot added) unfinished logged home =
    option_map (λ block. record { kind = kind.Home t; first = block; n = 1 }) home
due_in (Clear t slot) unfinished logged home = alone unfinished (kind.Clear t) (commit_at slot) 1

-- the slot of the transaction that a request of a stage is about; a home is the round's
abbrev pub slot_in : Commit ℕ → Option ℕ
slot_in Idle = None
slot_in (Log t slot) = Some slot
slot_in (Marking t slot) = Some slot
slot_in (Homes t slot added) = None
slot_in (Clear t slot) = Some slot

-- the slot whose transaction is being cleared
abbrev pub cleared_slot : Commit ℕ → Option ℕ
cleared_slot (Clear t slot) = Some slot
cleared_slot Idle = None
cleared_slot (Log t slot) = None
cleared_slot (Marking t slot) = None
cleared_slot (Homes t slot added) = None

-- ---- what holds of it

-- what holds in each stage, where so many homes are left to be added
abbrev pub FitsStage : ℕ → Work → Commit ℕ → Type 0
FitsStage more w Idle = w.unfinished ≡ 0
FitsStage more w (Log t slot) = (t.0 ≡ w.sealed) × (slot + 1 ≡ w.used) × (w.unfinished ≤ 1)
FitsStage more w (Marking t slot) = (t.0 ≡ w.sealed) × (slot + 1 ≡ w.used) × (w.unfinished ≤ 1)
FitsStage more w (Homes t slot added) = (slot + 1 ≡ w.used) × (added + more ≤ 261) × (w.unfinished ≤ added)
FitsStage more w (Clear t slot) = (t.0 + w.used ≡ w.sealed + (slot + 1)) × (slot < w.used) × (w.unfinished ≤ 1)

pub record IsWork (more : ℕ) (w : Work) : Type 0 where
  pub few : w.used ≤ 4
  pub counted : w.used ≤ w.sealed
  pub fits : w.sealed < 2 ^ 32
  pub stage : FitsStage more w w.stage
