-- What the requests that are kept as queued and in flight have to do with a history, and what a commit waits for.
use Rattle.std.specs.Prelude.{◌≡◌, ◌≤◌, ℕ, ◌&&◌, List, length, filter, find, map, nat_lt, Bool, true, false, Option}
use Rattle.std.specs.Prelude.{Some, None}
use Rattle.split_types.specs.declared.request.ReqKind.{ReqKind}
use Rattle.split_types.specs.declared.request.ReqKind.TheVariants.{Commit}
use Rattle.split_types.specs.declared.request.Request.{Request}
use Rattle.split_types.specs.declared.event.Event.{Event}
use Rattle.split_types.specs.History.{adds}
use Rattle.split_types.specs.Rounds.{before_seal, last_txn}
use Rattle.split_types.specs.Requests.{is_write, is_pages, queued, in_flight, unfinished}
use Rattle.split_types.specs.Schedulers.{oldest_write, is_data_done}
use Rattle.split_core.specs.declared.note.dispatch.Dispatch.{Dispatch}
use Rattle.split_core.specs.declared.note.ordered.Ordered.{Ordered}

-- the number of requests that were added before the last seal
abbrev pub adds_at_seal : List Event → ℕ
adds_at_seal h = adds (before_seal h (last_txn h))

-- the request is for pages, and is one of the first so many
abbrev pub is_ordered : ℕ → Request → Bool
is_ordered before r = is_pages r && nat_lt r.id.0 before

-- there is a request, and it commits a transaction
abbrev pub is_commit : Option Request → Bool
is_commit None = false
is_commit (Some r) = by_kind r.kind where
  by_kind : ReqKind → Bool
  by_kind (Commit t) = true
  by_kind _ = false

-- the first write of some requests does
abbrev pub commits_first : List Request → Bool
commits_first queued = is_commit (find is_write queued)

-- the data of the transaction is done which a write commits; true where there is no write, or it commits none
abbrev pub is_data_done_for : List Event → Option Request → Bool
is_data_done_for h None = true
is_data_done_for h (Some r) = by_kind r.kind where
  by_kind : ReqKind → Bool
  by_kind (Commit t) = is_data_done h t
  by_kind _ = true

-- that of the oldest queued write
abbrev pub is_ordered_done : List Event → Bool
is_ordered_done h = is_data_done_for h (oldest_write h)

-- the requests for pages that are unfinished are counted: all, and those that were added before the last seal
pub record OrderedStands (o : Ordered) (h : List Event) : Type 0 where
  pub added_is : o.added ≡ adds h
  pub before_is : o.before ≡ adds_at_seal h
  pub pages_is : o.pages ≡ length (filter is_pages (unfinished h))
  pub left_is : o.left ≡ length (filter (is_ordered o.before) (unfinished h))

pub record DispatchStands (d : Dispatch) (h : List Event) : Type 0 where
  pub queued_are : d.queue.queued ≡ queued h
  -- those in flight stand there with their costs
  pub sent_are : map (λ x. x.0) d.queue.in_flight ≡ in_flight h
  pub numbers : d.queue.next_id ≤ adds h
  pub ordered : OrderedStands d.ordered h
