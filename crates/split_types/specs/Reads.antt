-- Reads of pages: which pages are loading, and what became of the reads that a call added.
use Rattle.std.specs.Prelude.{ℕ, ◌==◌, List, [], ◌∷◌, ◌++◌, filter, Bool, true, false, not, ◌&&◌, ◌||◌, Option, Some, None, if◌then◌else◌}
use Rattle.std.specs.List.{list_any}
use Rattle.split_types.specs.declared.ids.Pid.{Pid}
use Rattle.split_types.specs.declared.ids.ReqId.{ReqId}
use Rattle.split_types.specs.declared.buf.Buf.{Buf}
use Rattle.split_types.specs.declared.buf.Buf.TheVariants.{Page}
use Rattle.split_types.specs.declared.request.ReqKind.{ReqKind}
use Rattle.split_types.specs.declared.request.ReqKind.TheVariants.{Read}
use Rattle.split_types.specs.declared.request.Request.{Request}
use Rattle.split_types.specs.declared.workload.Workload.{Workload}
use Rattle.split_types.specs.declared.event.Event.{Event}
use Rattle.split_types.specs.declared.event.Event.TheVariants.{Ret, Add, Done}
use Rattle.split_types.specs.History.{◌▹◌}
use Rattle.split_types.specs.Hooks.{same_buf}
use Rattle.split_types.specs.Requests.{is_numbered}
use Rattle.split_types.specs.Pages.{is_live_page}

-- the request reads the page
abbrev pub reads : Request → Buf → Bool
reads r b = by_kind r.kind b where
  by_kind : ReqKind → Buf → Bool
  by_kind (Read p s g) c = same_buf c (Page s g)
  by_kind _ c = false

-- the process for which the request reads; none where it writes
abbrev pub reads_for : Request → Option Pid
reads_for r = by_kind r.kind where
  by_kind : ReqKind → Option Pid
  by_kind (Read p s g) = Some p
  by_kind _ = None

-- the requests that aren't done, in the order in which they were added: those that are queued or in flight
abbrev pub outstanding : List Event → List Request
outstanding [] = []
outstanding (h ▹ Add by r) = outstanding h ++ r ∷ []
outstanding (h ▹ Done k id ok) = filter (λ r. not (is_numbered id r)) (outstanding h)
outstanding (h ▹ e) = outstanding h

-- a page of a file that is there is loading where a request that reads it is queued or in flight
abbrev pub is_loading : Workload → List Event → Buf → Bool
is_loading w h b = is_live_page w h b && list_any (λ r. reads r b) (outstanding h)

-- the request of this number
abbrev pub request_numbered : List Event → ReqId → Option Request
request_numbered [] id = None
request_numbered (h ▹ Add by r) id = elim (is_numbered id r) [ true ↦ Some r | false ↦ request_numbered h id ]
request_numbered (h ▹ e) id = request_numbered h id

-- the request of this number reads the page
abbrev pub is_read_of : List Event → ReqId → Buf → Bool
is_read_of h id b = elim (request_numbered h id) [ None ↦ false | Some r ↦ reads r b ]

-- the process, where it isn't this one
abbrev pub other_than : Pid → Option Pid → Option Pid
other_than by None = None
other_than by (Some p) = if p.0 == by.0 then None else Some p

-- the process is p
abbrev pub is_process : ℕ → Option Pid → Bool
is_process p None = false
is_process p (Some q) = q.0 == p

-- the process that added the read request of this number, until the call that added it returns
abbrev pub reader_of : List Event → ReqId → Option Pid
reader_of [] id = None
reader_of (h ▹ Add by r) id = elim (is_numbered id r) [ true ↦ reads_for r | false ↦ reader_of h id ]
reader_of (h ▹ Ret by reply) id = other_than by (reader_of h id)
reader_of (h ▹ e) id = reader_of h id

-- a read of the page that the call of process p under way added was done badly
abbrev pub is_read_badly : List Event → ℕ → Buf → Bool
is_read_badly [] p b = false
is_read_badly (h ▹ Done k id false) p b =
    (is_read_of h id b && is_process p (reader_of h id)) || is_read_badly h p b
is_read_badly (h ▹ Ret by reply) p b = not (by.0 == p) && is_read_badly h p b
is_read_badly (h ▹ e) p b = is_read_badly h p b
