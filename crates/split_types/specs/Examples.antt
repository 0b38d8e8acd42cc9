-- Histories that serve as examples, as the stack makes them.
use Rattle.std.specs.Prelude.{ℕ, List, [], true}
use Rattle.split_types.specs.declared.ids.Pid.{Pid}
use Rattle.split_types.specs.declared.ids.Serial.{Serial}
use Rattle.split_types.specs.declared.ids.Slot.{Slot}
use Rattle.split_types.specs.declared.ids.ReqId.{ReqId}
use Rattle.split_types.specs.declared.ids.Txn.{Txn}
use Rattle.split_types.specs.declared.actor.Actor.TheVariants.{Wb, Cm}
use Rattle.split_types.specs.declared.call.Reply.TheVariants as reply
use Rattle.split_types.specs.declared.request.ReqKind.{ReqKind}
use Rattle.split_types.specs.declared.request.ReqKind.TheVariants.{Pages, Log, Commit, Home, Clear}
use Rattle.split_types.specs.declared.request.Request.{Request}
use Rattle.split_types.specs.declared.workload.Sched.TheVariants.{Fifo}
use Rattle.split_types.specs.declared.workload.Workload.{Workload}
use Rattle.split_types.specs.declared.event.Event.{Event}
use Rattle.split_types.specs.declared.event.Event.TheVariants.{Enter, Admit, Make, Put, Flushed, Ret, Serve, Map, Seal, Add, Send, Done}
use Rattle.split_types.specs.History.{◌▹◌}

-- three processes
abbrev pub c1 : Pid
c1 = record { 0 = 1 }

abbrev pub c2 : Pid
c2 = record { 0 = 2 }

abbrev pub c3 : Pid
c3 = record { 0 = 3 }

-- files, slots, requests and transactions by their numbers
abbrev pub file : ℕ → Serial
file n = record { 0 = n }

abbrev pub slot : ℕ → Slot
slot n = record { 0 = n }

abbrev pub req : ℕ → ReqId
req n = record { 0 = n }

abbrev pub txn : ℕ → Txn
txn n = record { 0 = n }

abbrev pub request : ℕ → ReqKind → ℕ → ℕ → Request
request id kind first n = record { id = req id; kind = kind; first = first; n = n }

-- nothing but the version of a workload
abbrev pub of_version : ℕ → Workload
of_version version = record {
  version = version;
  device = 2048;
  cache = 16;
  depth = 1;
  sched = Fifo;
  accounts = [];
  procs = [];
  files = [];
  calls = [];
  fails = [];
  go = [];
}

-- one process overwrites a page
abbrev pub one_overwrite : List Event
one_overwrite =
    []
    ▹ Enter c1 0
    ▹ Admit c1
    ▹ Put c1 (file 0) 0 0 4096 66
    ▹ Ret c1 reply.Done
    ▹ Serve (file 0) 0 1
    ▹ Add Wb (request 0 (Pages (file 0) 0) 526 1)
    ▹ Send (req 0) 52
    ▹ Done 0 (req 0) true

-- three processes overwrite one page, which is written out once
abbrev pub three_writers : List Event
three_writers =
    []
    ▹ Enter c1 0
    ▹ Admit c1
    ▹ Put c1 (file 0) 0 0 4096 66
    ▹ Ret c1 reply.Done
    ▹ Enter c2 0
    ▹ Admit c2
    ▹ Put c2 (file 0) 0 0 4096 67
    ▹ Ret c2 reply.Done
    ▹ Enter c3 0
    ▹ Admit c3
    ▹ Put c3 (file 0) 0 0 4096 68
    ▹ Ret c3 reply.Done
    ▹ Serve (file 0) 0 1
    ▹ Add Wb (request 0 (Pages (file 0) 0) 526 1)
    ▹ Send (req 0) 52
    ▹ Done 0 (req 0) true

-- a second process overwrites the page after a request for it was added
abbrev pub writer_after_add : List Event
writer_after_add =
    []
    ▹ Enter c1 0
    ▹ Admit c1
    ▹ Put c1 (file 0) 0 0 4096 66
    ▹ Ret c1 reply.Done
    ▹ Serve (file 0) 0 1
    ▹ Add Wb (request 0 (Pages (file 0) 0) 526 1)
    ▹ Enter c2 0
    ▹ Admit c2
    ▹ Put c2 (file 0) 0 0 4096 67
    ▹ Ret c2 reply.Done
    ▹ Send (req 0) 52
    ▹ Done 0 (req 0) true
    ▹ Serve (file 0) 0 1
    ▹ Add Wb (request 1 (Pages (file 0) 0) 526 1)
    ▹ Send (req 1) 22
    ▹ Done 0 (req 1) true

-- a second process writes to a new page between its serve and its map
abbrev pub writer_between_serve_and_map : List Event
writer_between_serve_and_map =
    []
    ▹ Enter c1 0
    ▹ Admit c1
    ▹ Put c1 (file 0) 0 0 4096 66
    ▹ Ret c1 reply.Done
    ▹ Serve (file 0) 0 1
    ▹ Enter c2 0
    ▹ Admit c2
    ▹ Put c2 (file 0) 0 0 4096 67
    ▹ Ret c2 reply.Done
    ▹ Map (slot 0) (file 0) 0 1 526 true 4096
    ▹ Add Wb (request 0 (Pages (file 0) 0) 526 1)
    ▹ Seal (txn 1) 2
    ▹ Add Cm (request 1 (Log (txn 1)) 262 3)
    ▹ Send (req 0) 52
    ▹ Done 0 (req 0) true
    ▹ Send (req 1) 56
    ▹ Done 0 (req 1) true
    ▹ Add Cm (request 2 (Commit (txn 1)) 525 1)
    ▹ Send (req 2) 52
    ▹ Done 0 (req 2) true
    ▹ Add Cm (request 3 (Home (txn 1)) 1 1)
    ▹ Add Cm (request 4 (Home (txn 1)) 6 1)
    ▹ Send (req 3) 52
    ▹ Done 0 (req 3) true
    ▹ Send (req 4) 22
    ▹ Done 0 (req 4) true
    ▹ Add Cm (request 5 (Clear (txn 1)) 525 1)
    ▹ Send (req 5) 52
    ▹ Done 0 (req 5) true

-- three processes make a file each, and the first asks for its file to be on disk
abbrev pub three_creators : List Event
three_creators =
    []
    ▹ Enter c1 0
    ▹ Admit c1
    ▹ Make c1 (slot 0) (file 0)
    ▹ Ret c1 reply.Done
    ▹ Enter c2 0
    ▹ Admit c2
    ▹ Make c2 (slot 1) (file 1)
    ▹ Ret c2 reply.Done
    ▹ Enter c3 0
    ▹ Admit c3
    ▹ Make c3 (slot 2) (file 2)
    ▹ Ret c3 reply.Done
    ▹ Enter c1 1
    ▹ Admit c1
    ▹ Flushed c1
    ▹ Seal (txn 1) 4
    ▹ Add Cm (request 0 (Log (txn 1)) 262 5)
    ▹ Send (req 0) 60
    ▹ Done 0 (req 0) true
    ▹ Add Cm (request 1 (Commit (txn 1)) 525 1)
    ▹ Send (req 1) 52
    ▹ Done 0 (req 1) true
    ▹ Ret c1 reply.Done
    ▹ Add Cm (request 2 (Home (txn 1)) 2 1)
    ▹ Add Cm (request 3 (Home (txn 1)) 6 1)
    ▹ Add Cm (request 4 (Home (txn 1)) 7 1)
    ▹ Add Cm (request 5 (Home (txn 1)) 8 1)
    ▹ Send (req 2) 52
    ▹ Done 0 (req 2) true
    ▹ Send (req 3) 22
    ▹ Done 0 (req 3) true
    ▹ Send (req 4) 2
    ▹ Done 0 (req 4) true
    ▹ Send (req 5) 2
    ▹ Done 0 (req 5) true
    ▹ Add Cm (request 6 (Clear (txn 1)) 525 1)
    ▹ Send (req 6) 52
    ▹ Done 0 (req 6) true

-- a process overwrites three pages, and a second one the first and the last of them
abbrev pub two_writers_of_three_pages : List Event
two_writers_of_three_pages =
    []
    ▹ Enter c1 0
    ▹ Admit c1
    ▹ Put c1 (file 0) 0 0 4096 66
    ▹ Put c1 (file 0) 1 0 4096 66
    ▹ Put c1 (file 0) 2 0 4096 66
    ▹ Ret c1 reply.Done
    ▹ Enter c2 0
    ▹ Admit c2
    ▹ Put c2 (file 0) 0 0 4096 67
    ▹ Ret c2 reply.Done
    ▹ Enter c2 1
    ▹ Admit c2
    ▹ Put c2 (file 0) 2 0 4096 68
    ▹ Ret c2 reply.Done
    ▹ Serve (file 0) 0 3
    ▹ Add Wb (request 0 (Pages (file 0) 0) 1318 3)
    ▹ Send (req 0) 106
    ▹ Done 0 (req 0) true

-- two processes make a file each and ask for it to be on disk; the blocks of both transactions go home together
abbrev pub late_homes : List Event
late_homes =
    []
    ▹ Enter c1 0
    ▹ Admit c1
    ▹ Make c1 (slot 0) (file 0)
    ▹ Ret c1 reply.Done
    ▹ Enter c1 1
    ▹ Admit c1
    ▹ Flushed c1
    ▹ Seal (txn 1) 2
    ▹ Add Cm (request 0 (Log (txn 1)) 262 3)
    ▹ Send (req 0) 56
    ▹ Done 0 (req 0) true
    ▹ Add Cm (request 1 (Commit (txn 1)) 525 1)
    ▹ Send (req 1) 52
    ▹ Done 0 (req 1) true
    ▹ Ret c1 reply.Done
    ▹ Enter c2 0
    ▹ Admit c2
    ▹ Make c2 (slot 1) (file 1)
    ▹ Ret c2 reply.Done
    ▹ Enter c2 1
    ▹ Admit c2
    ▹ Flushed c2
    ▹ Seal (txn 2) 2
    ▹ Add Cm (request 2 (Log (txn 2)) 526 3)
    ▹ Send (req 2) 6
    ▹ Done 0 (req 2) true
    ▹ Add Cm (request 3 (Commit (txn 2)) 789 1)
    ▹ Send (req 3) 52
    ▹ Done 0 (req 3) true
    ▹ Ret c2 reply.Done
    ▹ Add Cm (request 4 (Home (txn 2)) 2 1)
    ▹ Add Cm (request 5 (Home (txn 2)) 6 1)
    ▹ Add Cm (request 6 (Home (txn 2)) 7 1)
    ▹ Send (req 4) 52
    ▹ Done 0 (req 4) true
    ▹ Send (req 5) 22
    ▹ Done 0 (req 5) true
    ▹ Send (req 6) 2
    ▹ Done 0 (req 6) true
    ▹ Add Cm (request 7 (Clear (txn 1)) 525 1)
    ▹ Send (req 7) 52
    ▹ Done 0 (req 7) true
    ▹ Add Cm (request 8 (Clear (txn 2)) 789 1)
    ▹ Send (req 8) 52
    ▹ Done 0 (req 8) true

-- two processes make a file each
abbrev pub two_creators : List Event
two_creators =
    []
    ▹ Enter c1 0
    ▹ Admit c1
    ▹ Make c1 (slot 0) (file 0)
    ▹ Ret c1 reply.Done
    ▹ Enter c2 0
    ▹ Admit c2
    ▹ Make c2 (slot 1) (file 1)
    ▹ Ret c2 reply.Done
    ▹ Seal (txn 1) 3
    ▹ Add Cm (request 0 (Log (txn 1)) 262 4)
    ▹ Send (req 0) 58
    ▹ Done 0 (req 0) true
    ▹ Add Cm (request 1 (Commit (txn 1)) 525 1)
    ▹ Send (req 1) 52
    ▹ Done 0 (req 1) true
    ▹ Add Cm (request 2 (Home (txn 1)) 2 1)
    ▹ Add Cm (request 3 (Home (txn 1)) 6 1)
    ▹ Add Cm (request 4 (Home (txn 1)) 7 1)
    ▹ Send (req 2) 52
    ▹ Done 0 (req 2) true
    ▹ Send (req 3) 22
    ▹ Done 0 (req 3) true
    ▹ Send (req 4) 2
    ▹ Done 0 (req 4) true
    ▹ Add Cm (request 5 (Clear (txn 1)) 525 1)
    ▹ Send (req 5) 52
    ▹ Done 0 (req 5) true
