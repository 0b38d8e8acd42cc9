-- Only proofs need this: what is to be known of a legal history where nothing else can go on.
use Rattle.std.specs.Prelude.{◌≡◌, ℕ, ◌≤◌, List, [], length, is_some, Some, IsTrue}
use Rattle.split_types.specs.declared.ids.Txn.{Txn}
use Rattle.split_types.specs.declared.workload.Workload.{Workload}
use Rattle.split_types.specs.declared.event.Event.{Event}
use Rattle.split_types.specs.Requests.{queued, in_flight}
use Rattle.split_types.specs.Schedulers.{pick}
use Rattle.split_types.specs.Rounds.{seals}
use Rattle.split_types.specs.Transactions.{marked_buffers}
use Rattle.split_types.specs.Syncing.{awaited_txn}

-- a request is sent where some are queued and none is in flight; a transaction that an fsync awaits was sealed where
-- nothing is marked
pub record WaitsEnd (w : Workload) (h : List Event) : Type 0 where
  pub picks : in_flight h ≡ [] → 1 ≤ length (queued h) → IsTrue (is_some (pick w h))
  pub awaited : (p : ℕ) (t : Txn) → awaited_txn w h p ≡ Some t → length (marked_buffers h) ≡ 0
      → (1 ≤ t.0) × (t.0 ≤ seals h)
