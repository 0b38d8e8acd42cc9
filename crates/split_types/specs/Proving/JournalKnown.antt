-- Only proofs need this: what is known of the journal in every legal history of an accepted workload.
use Rattle.std.specs.Prelude.{◌≡◌, ℕ, ◌+◌, ◌<◌, ◌≤◌, ◌⊎◌, List, [], ◌∷◌, length, slice_get, true, Some}
use Rattle.split_types.specs.declared.ids.Txn.{Txn}
use Rattle.split_types.specs.declared.buf.Buf.{Buf}
use Rattle.split_types.specs.declared.request.ReqKind.{ReqKind}
use Rattle.split_types.specs.declared.request.ReqKind.TheVariants.{Log, Commit, Home, Clear}
use Rattle.split_types.specs.declared.request.Request.{Request}
use Rattle.split_types.specs.declared.workload.Workload.{Workload}
use Rattle.split_types.specs.declared.event.Event.{Event}
use Rattle.split_types.specs.Requests.{requests, queued, unfinished}
use Rattle.split_types.specs.FileMaps.{is_committed}
use Rattle.split_types.specs.Rounds.{open_round, seals, last_txn, slot_of_txn}
use Rattle.split_types.specs.Schedulers.{is_data_done}
use Rattle.split_types.specs.Workloads.{first_block}
use Rattle.split_types.specs.Transactions.{journal_slots, in_journal, brings_home, awaiting_at, is_of_commit, under_way, stage, Stage}
use Rattle.split_types.specs.Transactions.Stage.{Fresh, Sealed, Logging, Committing, Homing, Clearing}

-- these transactions have all numbers above the one and up to the other, in order
abbrev pub AreInARow : ℕ → List Txn → ℕ → Type 0
AreInARow low [] high = low ≡ high
AreInARow low (t ∷ ts) high = (t.0 ≡ low + 1) × AreInARow (low + 1) ts high

-- a request of the journal moves 1 to 262 blocks, all of them below those of data
pub record IsJournalRun (w : Workload) (r : Request) : Type 0 where
  pub commits : is_of_commit r ≡ true
  pub some : 1 ≤ r.n
  pub most : r.n ≤ 262
  pub within : r.first + r.n ≤ first_block w

-- each request of the journal does
abbrev pub AreJournalRuns : Workload → List Request → Type 0
AreJournalRuns w all =
    (i : ℕ) (r : Request) → slice_get all i ≡ Some r → is_of_commit r ≡ true → IsJournalRun w r

-- the transaction of a request of the journal is one of so many
abbrev pub IsOfSealed : ℕ → ReqKind → Type 0
IsOfSealed n (Log t) = (1 ≤ t.0) × (t.0 ≤ n)
IsOfSealed n (Commit t) = (1 ≤ t.0) × (t.0 ≤ n)
IsOfSealed n (Home t) = (1 ≤ t.0) × (t.0 ≤ n)
IsOfSealed n (Clear t) = (1 ≤ t.0) × (t.0 ≤ n)
IsOfSealed n _ = Unit {0}

-- each unfinished request of the commit thread is of this kind
abbrev pub AreOfKind : ReqKind → List Request → Type 0
AreOfKind kind left = (i : ℕ) (r : Request) → slice_get left i ≡ Some r → is_of_commit r ≡ true → r.kind ≡ kind

-- a buffer whose home request is unfinished awaits none; home requests move a block each, and no two of them one block
pub record AreHomes (h : List Event) (t : Txn) : Type 0 where
  pub kinds : AreOfKind (Home t) (unfinished h)
  pub none : (i : ℕ) (r : Request) (b : Buf) → slice_get (unfinished h) i ≡ Some r → brings_home r b ≡ true
      → awaiting_at h b ≡ []
  pub apart : (i j : ℕ) (q r : Request) → slice_get (unfinished h) i ≡ Some q → slice_get (unfinished h) j ≡ Some r
      → is_of_commit q ≡ true → is_of_commit r ≡ true → q.first ≡ r.first → i ≡ j
  pub long : (i : ℕ) (r : Request) → slice_get (unfinished h) i ≡ Some r → is_of_commit r ≡ true → r.n ≡ 1

-- the clear request of the transaction is under way, which is the first in the journal; or it is done, and no other is
-- under way
abbrev pub IsClearing : List Event → ℕ → Txn → Type 0
IsClearing h cleared t =
    ((under_way h ≡ 1) × (t.0 ≡ cleared + 1) × AreOfKind (Clear t) (unfinished h)) ⊎ (under_way h ≡ 0)

-- what the last act of the commit thread gives on its unfinished requests
abbrev pub AtStage : List Event → ℕ → Stage → Type 0
AtStage h cleared Fresh = (under_way h ≡ 0) × (seals h ≡ 0)
AtStage h cleared (Sealed t k) = (under_way h ≡ 0) × (t.0 ≡ seals h) × (cleared < t.0) × (1 ≤ k) × (k ≤ 261)
AtStage h cleared (Logging t) =
    (under_way h ≤ 1) × (t.0 ≡ seals h) × (cleared < t.0) × AreOfKind (Log t) (unfinished h)
AtStage h cleared (Committing t) =
    (under_way h ≤ 1) × (t.0 ≡ seals h) × (cleared < t.0) × AreOfKind (Commit t) (unfinished h)
AtStage h cleared (Homing t) = (t.0 ≡ seals h) × (cleared < t.0) × AreHomes h t
AtStage h cleared (Clearing t) = IsClearing h cleared t

-- where no clear request was added since the round began, nothing of it is cleared, and the next slot is that behind all
-- that are in use; after one the next round is empty
abbrev pub IsOpenAt : List Event → ℕ → ℕ → Stage → Type 0
IsOpenAt h base cleared (Clearing t) = open_round h ≡ []
IsOpenAt h base cleared _ = (base ≡ cleared) × (cleared + length (open_round h) ≡ seals h)

-- the transaction that was sealed last is committed once its commit request is done, and stays so until the next seal
abbrev pub IsLastCommitted : List Event → Stage → Type 0
IsLastCommitted h (Committing t) = under_way h ≡ 0 → is_committed h t ≡ true
IsLastCommitted h (Homing t) = is_committed h (last_txn h) ≡ true
IsLastCommitted h (Clearing t) = is_committed h (last_txn h) ≡ true
IsLastCommitted h _ = Unit {0}

-- the slots are taken in turn from the first on; the round begins behind transaction `base`
pub record AreSlots (w : Workload) (h : List Event) (base cleared : ℕ) : Type 0 where
  pub order : base ≤ cleared
  pub room : seals h ≤ base + journal_slots w
  pub slot_is : (t : Txn) → base < t.0 → t.0 ≤ seals h → slot_of_txn h t + base + 1 ≡ t.0
  pub open_is : IsOpenAt h base cleared (stage h)

pub record JournalKnown (w : Workload) (h : List Event) : Type 0 where
  -- all transactions up to this one are cleared, and those that the journal holds come behind it
  pub cleared : ℕ
  pub base : ℕ
  pub row : AreInARow cleared (in_journal h) (seals h)
  pub slots : AreSlots w h base cleared
  pub numbers : (i : ℕ) (r : Request) → slice_get (requests h) i ≡ Some r → IsOfSealed (seals h) r.kind
  pub runs : AreJournalRuns w (requests h)
  pub stands : AtStage h cleared (stage h)
  -- all but the last are committed
  pub committed : (t : Txn) → 1 ≤ t.0 → t.0 < seals h → is_committed h t ≡ true
  pub last : IsLastCommitted h (stage h)
  -- where a commit request was sent, the data of its transaction is done
  pub ordered : (i : ℕ) (r : Request) (t : Txn) → slice_get (requests h) i ≡ Some r → r.kind ≡ Commit t
      → ((k : ℕ) × (slice_get (queued h) k ≡ Some r)) ⊎ (is_data_done h t ≡ true)
