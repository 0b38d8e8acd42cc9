-- What lines begin with, and what they say by the numbers that follow.
use Rattle.std.specs.Prelude.{ℕ, ◌==◌, List, codes, slice_index, Bool, true, false, if◌then◌else◌, Option, Some, None}
use Rattle.split_types.specs.declared.ids.Pid.{Pid}
use Rattle.split_types.specs.declared.actor.Actor.{Actor}
use Rattle.split_types.specs.declared.actor.Actor.TheVariants as actor
use Rattle.split_types.specs.declared.call.Reply.{Reply}
use Rattle.split_types.specs.declared.call.Reply.TheVariants as reply
use Rattle.split_types.specs.declared.request.ReqKind.{ReqKind}
use Rattle.split_types.specs.declared.request.ReqKind.TheVariants as kind
use Rattle.split_types.specs.declared.request.Request.{Request}
use Rattle.split_types.specs.declared.event.Event.{Event}
use Rattle.split_types.specs.declared.event.Event.TheVariants as event
use Rattle.trace_text.specs.declared.row.ClientRow.{ClientRow}
use Rattle.trace_text.specs.declared.row.ClientRow.TheVariants as client
use Rattle.trace_text.specs.declared.row.ThreadRow.{ThreadRow}
use Rattle.trace_text.specs.declared.row.ThreadRow.TheVariants as thread
use Rattle.trace_text.specs.declared.row.RequestRow.{RequestRow}
use Rattle.trace_text.specs.declared.row.RequestRow.TheVariants as asked
use Rattle.trace_text.specs.declared.row.ReplyRow.{ReplyRow}
use Rattle.trace_text.specs.declared.row.ReplyRow.TheVariants as answer
use Rattle.trace_text.specs.EventLines.{EventLine, Shown, OddMap}

abbrev pub client_head : ClientRow → List ℕ
client_head client.Enter = codes "enter c"
client_head client.Admit = codes "admit c"
client_head client.Make = codes "make c"
client_head client.Put = codes "put c"
client_head client.Get = codes "get c"
client_head client.Drop = codes "drop c"
client_head client.Flushed = codes "flushed c"
client_head client.Evict = codes "evict c"

-- so many numbers of 32 bits follow the client
abbrev pub client_count : ClientRow → ℕ
client_count client.Enter = 1
client_count client.Admit = 0
client_count client.Make = 2
client_count client.Put = 5
client_count client.Get = 4
client_count client.Drop = 2
client_count client.Flushed = 0
client_count client.Evict = 2

-- and one of 64 bits
abbrev pub client_is_wide : ClientRow → Bool
client_is_wide client.Get = true
client_is_wide _ = false

-- the event of these numbers
abbrev pub client_event : ClientRow → Pid → List ℕ → List ℕ → Event
client_event client.Enter by ns ws = event.Enter by (slice_index ns 0)
client_event client.Admit by ns ws = event.Admit by
client_event client.Make by ns ws = event.Make by (record { 0 = slice_index ns 0 }) (record { 0 = slice_index ns 1 })
client_event client.Put by ns ws = event.Put by (record { 0 = slice_index ns 0 }) (slice_index ns 1) (slice_index ns 2)
    (slice_index ns 3) (slice_index ns 4)
client_event client.Get by ns ws = event.Get by (record { 0 = slice_index ns 0 }) (slice_index ns 1) (slice_index ns 2)
    (slice_index ns 3) (slice_index ws 0)
client_event client.Drop by ns ws = event.Drop by (record { 0 = slice_index ns 0 }) (record { 0 = slice_index ns 1 })
client_event client.Flushed by ns ws = event.Flushed by
client_event client.Evict by ns ws = event.Evict by (record { 0 = slice_index ns 0 }) (slice_index ns 1)

abbrev pub thread_head : ThreadRow → List ℕ
thread_head thread.Serve = codes "serve wb"
thread_head thread.Map = codes "map wb"
thread_head thread.Skip = codes "skip wb"
thread_head thread.Seal = codes "seal cm"
thread_head thread.Send = codes "send dq"
thread_head thread.Tick = codes "tick tk"

abbrev pub thread_count : ThreadRow → ℕ
thread_count thread.Serve = 3
thread_count thread.Map = 7
thread_count thread.Skip = 0
thread_count thread.Seal = 2
thread_count thread.Send = 1
thread_count thread.Tick = 0

abbrev pub thread_is_wide : ThreadRow → Bool
thread_is_wide thread.Send = true
thread_is_wide thread.Tick = true
thread_is_wide _ = false

abbrev pub map_event : List ℕ → Bool → EventLine
map_event ns new = Shown (event.Map (record { 0 = slice_index ns 0 }) (record { 0 = slice_index ns 1 })
    (slice_index ns 2) (slice_index ns 3) (slice_index ns 4) new (slice_index ns 6))

abbrev pub odd_map : List ℕ → ℕ → EventLine
odd_map ns new = OddMap (slice_index ns 0) (slice_index ns 1) (slice_index ns 2) (slice_index ns 3) (slice_index ns 4)
    new (slice_index ns 6)

-- what the number says, if it says so
abbrev pub is_new : ℕ → Option Bool
is_new n = if n == 0 then Some false else (if n == 1 then Some true else None)

-- the line of a map, of which one number says whether its blocks are new
abbrev pub map_line : List ℕ → ℕ → EventLine
map_line ns new = if new == 0 then map_event ns false else (if new == 1 then map_event ns true else odd_map ns new)

abbrev pub thread_line : ThreadRow → List ℕ → List ℕ → EventLine
thread_line thread.Serve ns ws = Shown (event.Serve (record { 0 = slice_index ns 0 }) (slice_index ns 1)
    (slice_index ns 2))
thread_line thread.Map ns ws = map_line ns (slice_index ns 5)
thread_line thread.Skip ns ws = Shown event.Skip
thread_line thread.Seal ns ws = Shown (event.Seal (record { 0 = slice_index ns 0 }) (slice_index ns 1))
thread_line thread.Send ns ws = Shown (event.Send (record { 0 = slice_index ns 0 }) (slice_index ws 0))
thread_line thread.Tick ns ws = Shown (event.Tick (slice_index ws 0))

-- the event of a line
abbrev pub shown : EventLine → Option Event
shown (Shown e) = Some e
shown (OddMap slot serial page n block new size) = None

abbrev pub request_head : RequestRow → List ℕ
request_head asked.Pages = codes "add wb pages"
request_head asked.Log = codes "add cm log"
request_head asked.Commit = codes "add cm commit"
request_head asked.Home = codes "add cm home"
request_head asked.Clear = codes "add cm clear"

abbrev pub request_count : RequestRow → ℕ
request_count asked.Pages = 4
request_count _ = 3

-- it may be for so many blocks
abbrev pub allows : RequestRow → ℕ → Bool
allows asked.Pages blocks = true
allows asked.Log blocks = true
allows _ blocks = blocks == 1

abbrev pub request_kind : RequestRow → List ℕ → ReqKind
request_kind asked.Pages ns = kind.Pages (record { 0 = slice_index ns 2 }) (slice_index ns 3)
request_kind asked.Log ns = kind.Log (record { 0 = slice_index ns 2 })
request_kind asked.Commit ns = kind.Commit (record { 0 = slice_index ns 2 })
request_kind asked.Home ns = kind.Home (record { 0 = slice_index ns 2 })
request_kind asked.Clear ns = kind.Clear (record { 0 = slice_index ns 2 })

-- the thread that adds it
abbrev pub asker : RequestRow → Actor
asker asked.Pages = actor.Wb
asker _ = actor.Cm

-- a request behind so many others, for the blocks that the first two numbers say
abbrev pub request : ℕ → ReqKind → List ℕ → Request
request adds k ns = record { id = record { 0 = adds }; kind = k; first = slice_index ns 0; n = slice_index ns 1 }

abbrev pub request_event : RequestRow → ℕ → List ℕ → Event
request_event row adds ns = event.Add (asker row) (request adds (request_kind row ns) ns)

-- the request of one page's read
abbrev pub read_event : Pid → ℕ → List ℕ → Event
read_event by adds ns = event.Add (actor.Client by) (request adds
    (kind.Read by (record { 0 = slice_index ns 2 }) (slice_index ns 3)) ns)

abbrev pub reply_head : ReplyRow → List ℕ
reply_head answer.Done = codes " done"
reply_head answer.Count = codes " count"
reply_head answer.NoFile = codes " nofile"
reply_head answer.Exists = codes " exists"
reply_head answer.NoSlot = codes " noslot"
reply_head answer.TooBig = codes " toobig"
reply_head answer.NoSpace = codes " nospace"
reply_head answer.Stopped = codes " stopped"
reply_head answer.ReadFault = codes " readfault"

abbrev pub reply_count : ReplyRow → ℕ
reply_count answer.Count = 1
reply_count answer.NoSpace = 1
reply_count _ = 0

abbrev pub reply_is_wide : ReplyRow → Bool
reply_is_wide answer.Count = true
reply_is_wide _ = false

abbrev pub reply_of : ReplyRow → List ℕ → List ℕ → Reply
reply_of answer.Done ns ws = reply.Done
reply_of answer.Count ns ws = reply.Count (slice_index ns 0) (slice_index ws 0)
reply_of answer.NoFile ns ws = reply.NoFile
reply_of answer.Exists ns ws = reply.Exists
reply_of answer.NoSlot ns ws = reply.NoSlot
reply_of answer.TooBig ns ws = reply.TooBig
reply_of answer.NoSpace ns ws = reply.NoSpace (slice_index ns 0)
reply_of answer.Stopped ns ws = reply.Stopped
reply_of answer.ReadFault ns ws = reply.ReadFault

-- what a line begins with
pub data Row : Type 0 where
  Client : ClientRow → Row
  Thread : ThreadRow → Row
  Asks : RequestRow → Row
  Returns : Row
  Reads : Row
  Completes : Row

abbrev pub head : Row → List ℕ
head (Client row) = client_head row
head (Thread row) = thread_head row
head (Asks row) = request_head row
head Returns = codes "ret c"
head Reads = codes "add c"
head Completes = codes "done dn"
