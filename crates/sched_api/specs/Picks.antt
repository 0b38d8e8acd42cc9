-- Which of the requests that wait a scheduler may send.
use Rattle.std.specs.Prelude.{List, find, not, ◌||◌, Option, None, if◌then◌else◌}
use Rattle.split_types.specs.declared.request.Request.{Request}
use Rattle.split_types.specs.Requests.{is_write}
use Rattle.split_types.specs.Schedulers.{earlier}
use Rattle.sched_api.specs.View.{View}

-- of requests that stand by id, the write that was added first
abbrev pub oldest_write : List Request → Option Request
oldest_write queued = find is_write queued

-- that write, where it may be sent: the stack hasn't stopped, and the data that it waits for is done
abbrev pub eligible_write : View → List Request → Option Request
eligible_write f queued = if f.stopped || not f.ordered_done then None else oldest_write queued

-- the read that was added first
abbrev pub oldest_read : List Request → Option Request
oldest_read queued = find (λ r. not (is_write r)) queued

-- the request of the least id among the oldest write, where it may be sent, and all reads
abbrev pub fifo_pick : View → List Request → Option Request
fifo_pick f queued = earlier (eligible_write f queued) (oldest_read queued)
