-- What the journal after a history shows of that history.
use Rattle.std.proofs.Common.{◌≡◌, ℕ, List, [], length, Bool, true, Some}
use Rattle.std.specs.Prelude.{◌==◌, ◌&&◌, not, is_none}
use Rattle.std.specs.List.{list_all}
use Rattle.split_types.specs.declared.ids.ReqId.{ReqId}
use Rattle.split_types.specs.declared.ids.Txn.{Txn}
use Rattle.split_types.specs.declared.actor.Actor.TheVariants.{Cm}
use Rattle.split_types.specs.declared.request.Request.{Request}
use Rattle.split_types.specs.declared.workload.Workload.{Workload}
use Rattle.split_types.specs.declared.event.Event.{Event}
use Rattle.split_types.specs.declared.event.Event.TheVariants.{Add, Done}
use Rattle.split_types.specs.History.{◌▹◌, adds}
use Rattle.split_types.specs.Workloads.{processes}
use Rattle.split_types.specs.Calls.{is_finished}
use Rattle.split_types.specs.Requests.{queued, in_flight}
use Rattle.split_types.specs.Reads.{request_numbered}
use Rattle.split_types.specs.Blame.{blame}
use Rattle.split_types.specs.Rounds.{seals}
use Rattle.split_types.specs.FileMaps.{is_committed}
use Rattle.split_types.specs.Writeback.{service}
use Rattle.split_types.specs.Transactions.{journal_slots, in_journal, marked_buffers, is_of_commit}
use Rattle.split_types.specs.Committing.{next_of_commit, is_map_waiting}
use Rattle.split_types.specs.Legal.{IsLegal}
use Rattle.journal_core.specs.Journaled as journal
use Rattle.journal_core.specs.Journaled.{Journaled, IsUnderWay}
use Rattle.split_core.specs.Journaling.{next_by}
use Rattle.split_core.specs.Takings.{all_carried}

-- what it says of the work of the commit thread
pub record WorkShown (w : Workload) (h : List Event) (j : Journaled (List ℕ)) : Type 0 where
  pub next_is : next_of_commit w h
      ≡ next_by j (list_all (is_finished w h) (processes w)) (is_map_waiting (service h)) (adds h)
  pub sealed_is : j.work.sealed ≡ seals h
  pub committed_is : (t : Txn) → journal.is_committed j t ≡ is_committed h t
  pub slots_are : length j.slots ≡ journal_slots w
  pub marked_is : journal.marked_count j ≡ length (marked_buffers h)
  pub drained_is : queued h ≡ [] → in_flight h ≡ []
      → (length (marked_buffers h) == 0 && length (in_journal h) == 0)
      ≡ (not (journal.can_seal j) && is_none (journal.next_due j true))
  pub done_is : (k : ℕ) (id : ReqId) (ok : Bool) (r : Request) → IsLegal w (h ▹ Done k id ok)
      → request_numbered h id ≡ Some r → is_of_commit r ≡ true → IsUnderWay j r.kind r.first

-- for whom the request is added that comes next, and what it carries
pub record DueShown (w : Workload) (h : List Event) (j : Journaled (List ℕ)) : Type 0 where
  pub for_is : (r : Request) → next_of_commit w h ≡ Some (Add Cm r)
      → journal.due_for j ≡ Some (blame (h ▹ Add Cm r) (length h))
  pub carries : (r : Request) → next_of_commit w h ≡ Some (Add Cm r) → journal.carried j ≡ all_carried w h r
