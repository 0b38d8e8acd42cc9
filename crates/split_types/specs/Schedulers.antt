-- What a scheduler decides: which calls are admitted, and which request is sent next.
use Rattle.std.specs.Prelude.{ℕ, List, [], find, nat_lt, Bool, true, false, not, ◌&&◌, ◌||◌, Option, Some, None, if◌then◌else◌}
use Rattle.std.specs.List.{list_any}
use Rattle.split_types.specs.declared.ids.Txn.{Txn}
use Rattle.split_types.specs.declared.request.ReqKind.{ReqKind}
use Rattle.split_types.specs.declared.request.ReqKind.TheVariants.{Commit}
use Rattle.split_types.specs.declared.request.Request.{Request}
use Rattle.split_types.specs.declared.workload.Sched.{Sched}
use Rattle.split_types.specs.declared.workload.Sched.TheVariants.{Fifo}
use Rattle.split_types.specs.declared.workload.Workload.{Workload}
use Rattle.split_types.specs.declared.event.Event.{Event}
use Rattle.split_types.specs.declared.event.Event.TheVariants.{Done}
use Rattle.split_types.specs.History.{◌▹◌}
use Rattle.split_types.specs.Rounds.{before_seal}
use Rattle.split_types.specs.Requests.{is_numbered, is_write, is_pages, requests, queued, unfinished}

-- the stack has stopped: a request that writes was done badly
abbrev pub has_stopped : List Event → Bool
has_stopped [] = false
has_stopped (h ▹ Done k id ok) =
    (not ok && list_any (λ r. is_numbered id r && is_write r) (requests h)) || has_stopped h
has_stopped (h ▹ e) = has_stopped h

-- the queued write that was added first
abbrev pub oldest_write : List Event → Option Request
oldest_write h = find is_write (queued h)

-- the queued read that was added first
abbrev pub oldest_read : List Event → Option Request
oldest_read h = find (λ r. not (is_write r)) (queued h)

-- each request for pages that was added before the seal of a transaction is done well
abbrev pub is_data_done : List Event → Txn → Bool
is_data_done h t =
    not (list_any (λ r. is_pages r && list_any (is_numbered r.id) (unfinished h)) (requests (before_seal h t)))

-- the write may be sent: the stack hasn't stopped, and the data of a transaction is done before its commit
abbrev pub is_eligible : List Event → Request → Bool
is_eligible h r = not (has_stopped h) && by_kind r.kind where
  by_kind : ReqKind → Bool
  by_kind (Commit t) = is_data_done h t
  by_kind _ = true

-- the oldest write, where it may be sent
abbrev pub eligible_write : List Event → Option Request
eligible_write h = elim (oldest_write h) [ None ↦ None | Some r ↦ if is_eligible h r then Some r else None ]

-- of two requests, where both are there, the one of the lesser number
abbrev pub earlier : Option Request → Option Request → Option Request
earlier None r = r
earlier (Some q) None = Some q
earlier (Some q) (Some r) = if nat_lt q.id.0 r.id.0 then Some q else Some r

-- the scheduler admits the call of process p: `fifo` admits each
abbrev pub admits : Workload → List Event → ℕ → Bool
admits w h p = by_sched w.sched where
  by_sched : Sched → Bool
  by_sched Fifo = true
  by_sched _ = false

-- the request that the scheduler sends next: for `fifo` the one of the least number among the oldest write, where it
-- may be sent, and all queued reads
abbrev pub pick : Workload → List Event → Option Request
pick w h = by_sched w.sched where
  by_sched : Sched → Option Request
  by_sched Fifo = earlier (eligible_write h) (oldest_read h)
  by_sched _ = None
