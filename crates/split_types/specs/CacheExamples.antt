-- Workloads that serve as examples of reads, of small caches and of files that come and go, and the history of each.
use Rattle.std.specs.Prelude.{ℕ, List, [], ◌∷◌, replicate, true, false, codes, pos}
use Rattle.split_types.specs.declared.ids.Pid.{Pid}
use Rattle.split_types.specs.declared.actor.Actor.{Actor}
use Rattle.split_types.specs.declared.actor.Actor.TheVariants.{Client, Wb, Cm, Dq, Dn}
use Rattle.split_types.specs.declared.call.Call.{Call}
use Rattle.split_types.specs.declared.call.Call.TheVariants as call
use Rattle.split_types.specs.declared.call.Reply.TheVariants as reply
use Rattle.split_types.specs.declared.request.ReqKind.TheVariants.{Read, Pages, Log, Commit}
use Rattle.split_types.specs.declared.workload.Sched.TheVariants.{Fifo}
use Rattle.split_types.specs.declared.workload.Preset.{Preset}
use Rattle.split_types.specs.declared.workload.Go.{Go}
use Rattle.split_types.specs.declared.workload.Workload.{Workload}
use Rattle.split_types.specs.declared.event.Event.{Event}
use Rattle.split_types.specs.declared.event.Event.TheVariants.{Enter, Admit, Put, Get, Drop, Ret, Serve, Seal, Add, Send, Done, Evict}
use Rattle.split_types.specs.History.{◌▹◌}
use Rattle.split_types.specs.Examples.{c1, c2, file, slot, req, txn, request}

-- a preset file, whose name has these bytes
abbrev pub preset : List ℕ → ℕ → ℕ → Preset
preset name pages fill = record { name = name; pages = pages; fill = fill }

-- so many turns of an actor
abbrev pub turns : Actor → ℕ → Go
turns actor times = record { actor = actor; times = times }

-- a workload: its cache, its depth, how many processes it has, its files, its calls and its turns
abbrev pub load : ℕ → ℕ → ℕ → List Preset → List (Pid × Call) → List Go → Workload
load cache depth procs files calls go = record {
  version = 1;
  device = 1024;
  cache = cache;
  depth = depth;
  sched = Fifo;
  accounts = record { rate = 1; cap = 0; start = pos 0 } ∷ [];
  procs = replicate procs (record { account = 1; weight = 1; deadline = 0 });
  files = files;
  calls = calls;
  fails = [];
  go = go;
}

-- two requests in flight, of which the second is done first
abbrev pub two_in_flight_load : Workload
two_in_flight_load =
    load 64 2 2 (preset (codes "a") 1 65 ∷ preset (codes "b") 1 65 ∷ [])
    ((c1, call.Write (codes "a") 0 4096 66) ∷ (c2, call.Write (codes "b") 0 4096 66) ∷ [])
    (turns (Client c1) 4 ∷ turns (Client c2) 4 ∷ turns Wb 4 ∷ turns Dq 2 ∷ turns (Dn 1) 1 ∷ [])

abbrev pub two_in_flight : List Event
two_in_flight =
    []
    ▹ Enter c1 0
    ▹ Admit c1
    ▹ Put c1 (file 0) 0 0 4096 66
    ▹ Ret c1 reply.Done
    ▹ Enter c2 0
    ▹ Admit c2
    ▹ Put c2 (file 1) 0 0 4096 66
    ▹ Ret c2 reply.Done
    ▹ Serve (file 0) 0 1
    ▹ Add Wb (request 0 (Pages (file 0) 0) 526 1)
    ▹ Serve (file 1) 0 1
    ▹ Add Wb (request 1 (Pages (file 1) 0) 527 1)
    ▹ Send (req 0) 52
    ▹ Send (req 1) 2
    ▹ Done 1 (req 1) true
    ▹ Done 0 (req 0) true

-- a cache of two pages, of which one at a time may be dirty or busy; the third page takes the place of the first
abbrev pub small_cache_load : Workload
small_cache_load =
    load 2 1 1 (preset (codes "a") 3 65 ∷ []) ((c1, call.Write (codes "a") 0 12288 66) ∷ []) []

abbrev pub small_cache : List Event
small_cache =
    []
    ▹ Enter c1 0
    ▹ Admit c1
    ▹ Put c1 (file 0) 0 0 4096 66
    ▹ Serve (file 0) 0 1
    ▹ Add Wb (request 0 (Pages (file 0) 0) 526 1)
    ▹ Send (req 0) 52
    ▹ Done 0 (req 0) true
    ▹ Put c1 (file 0) 1 0 4096 66
    ▹ Serve (file 0) 1 1
    ▹ Add Wb (request 1 (Pages (file 0) 1) 527 1)
    ▹ Send (req 1) 2
    ▹ Done 0 (req 1) true
    ▹ Evict c1 (file 0) 0
    ▹ Put c1 (file 0) 2 0 4096 66
    ▹ Ret c1 reply.Done
    ▹ Serve (file 0) 2 1
    ▹ Add Wb (request 2 (Pages (file 0) 2) 528 1)
    ▹ Send (req 2) 2
    ▹ Done 0 (req 2) true

-- a write of a part of a page, which is read before, and a read of what the page then has
abbrev pub part_of_page_load : Workload
part_of_page_load =
    load 64 1 1 (preset (codes "a") 1 65 ∷ [])
    ((c1, call.Write (codes "a") 10 5 66) ∷ (c1, call.Read (codes "a") 0 20) ∷ []) []

abbrev pub part_of_page : List Event
part_of_page =
    []
    ▹ Enter c1 0
    ▹ Admit c1
    ▹ Add (Client c1) (request 0 (Read c1 (file 0) 0) 526 1)
    ▹ Send (req 0) 52
    ▹ Done 0 (req 0) true
    ▹ Put c1 (file 0) 0 10 15 66
    ▹ Ret c1 reply.Done
    ▹ Enter c1 1
    ▹ Admit c1
    ▹ Get c1 (file 0) 0 0 20 1305
    ▹ Ret c1 (reply.Count 20 1305)
    ▹ Serve (file 0) 0 1
    ▹ Add Wb (request 1 (Pages (file 0) 0) 526 1)
    ▹ Send (req 1) 22
    ▹ Done 0 (req 1) true

-- reads that begin behind the end of a file, that end behind it, and that name no file
abbrev pub past_the_end_load : Workload
past_the_end_load =
    load 64 1 1 (preset (codes "a") 1 65 ∷ [])
    ((c1, call.Read (codes "a") 5000 10) ∷ (c1, call.Read (codes "a") 4090 10) ∷ (c1, call.Read (codes "b") 0 1) ∷ [])
    []

abbrev pub past_the_end : List Event
past_the_end =
    []
    ▹ Enter c1 0
    ▹ Admit c1
    ▹ Ret c1 (reply.Count 0 0)
    ▹ Enter c1 1
    ▹ Admit c1
    ▹ Add (Client c1) (request 0 (Read c1 (file 0) 0) 526 1)
    ▹ Send (req 0) 52
    ▹ Done 0 (req 0) true
    ▹ Get c1 (file 0) 0 4090 4096 390
    ▹ Ret c1 (reply.Count 6 390)
    ▹ Enter c1 2
    ▹ Admit c1
    ▹ Ret c1 reply.NoFile

-- a full cache, in which a page stays that was read for a process which hasn't got it yet
abbrev pub pinned_page_load : Workload
pinned_page_load =
    load 3 1 2 (preset (codes "a") 4 65 ∷ [])
    ((c1, call.Read (codes "a") 0 1) ∷ (c2, call.Read (codes "a") 4096 12288) ∷ [])
    (turns (Client c1) 3 ∷ turns Dq 1 ∷ turns (Dn 0) 1 ∷ turns (Client c2) 3 ∷ turns Dq 1 ∷ turns (Dn 0) 1
    ∷ turns (Client c2) 2 ∷ turns Dq 1 ∷ turns (Dn 0) 1 ∷ turns (Client c2) 2 ∷ [])

abbrev pub pinned_page : List Event
pinned_page =
    []
    ▹ Enter c1 0
    ▹ Admit c1
    ▹ Add (Client c1) (request 0 (Read c1 (file 0) 0) 526 1)
    ▹ Send (req 0) 52
    ▹ Done 0 (req 0) true
    ▹ Enter c2 0
    ▹ Admit c2
    ▹ Add (Client c2) (request 1 (Read c2 (file 0) 1) 527 1)
    ▹ Send (req 1) 2
    ▹ Done 0 (req 1) true
    ▹ Get c2 (file 0) 1 0 4096 266240
    ▹ Add (Client c2) (request 2 (Read c2 (file 0) 2) 528 1)
    ▹ Send (req 2) 2
    ▹ Done 0 (req 2) true
    ▹ Get c2 (file 0) 2 0 4096 266240
    ▹ Evict c2 (file 0) 1
    ▹ Get c1 (file 0) 0 0 1 65
    ▹ Ret c1 (reply.Count 1 65)
    ▹ Add (Client c2) (request 3 (Read c2 (file 0) 3) 529 1)
    ▹ Send (req 3) 2
    ▹ Done 0 (req 3) true
    ▹ Get c2 (file 0) 3 0 4096 266240
    ▹ Ret c2 (reply.Count 12288 798720)

-- a read that is done badly
abbrev pub failed_read_load : Workload
failed_read_load = record (load 64 1 1 (preset (codes "a") 1 65 ∷ []) ((c1, call.Read (codes "a") 0 10) ∷ []) []) {
  fails = 0 ∷ [];
}

abbrev pub failed_read : List Event
failed_read =
    []
    ▹ Enter c1 0
    ▹ Admit c1
    ▹ Add (Client c1) (request 0 (Read c1 (file 0) 0) 526 1)
    ▹ Send (req 0) 52
    ▹ Done 0 (req 0) false
    ▹ Ret c1 reply.ReadFault

-- a file that is dropped while a read of it is in flight
abbrev pub dropped_file_load : Workload
dropped_file_load =
    load 64 1 2 (preset (codes "a") 1 65 ∷ [])
    ((c1, call.Read (codes "a") 0 10) ∷ (c2, call.Unlink (codes "a")) ∷ [])
    (turns (Client c1) 3 ∷ turns Dq 1 ∷ turns (Client c2) 4 ∷ [])

abbrev pub dropped_file : List Event
dropped_file =
    []
    ▹ Enter c1 0
    ▹ Admit c1
    ▹ Add (Client c1) (request 0 (Read c1 (file 0) 0) 526 1)
    ▹ Send (req 0) 52
    ▹ Enter c2 0
    ▹ Admit c2
    ▹ Drop c2 (slot 0) (file 0)
    ▹ Ret c2 reply.Done
    ▹ Ret c1 reply.NoFile
    ▹ Seal (txn 1) 3
    ▹ Add Cm (request 1 (Log (txn 1)) 262 4)
    ▹ Done 0 (req 0) true
    ▹ Send (req 1) 58
    ▹ Done 0 (req 1) true
    ▹ Add Cm (request 2 (Commit (txn 1)) 525 1)
    ▹ Send (req 2) 52
    ▹ Done 0 (req 2) true

-- the workload of a writer between serve and map: two writes to a new page
abbrev pub new_page_load : Workload
new_page_load =
    load 64 1 2 (preset (codes "a") 0 0 ∷ [])
    ((c1, call.Write (codes "a") 0 4096 66) ∷ (c2, call.Write (codes "a") 0 4096 67) ∷ [])
    (turns (Client c1) 4 ∷ turns Wb 1 ∷ turns (Client c2) 4 ∷ [])

-- the workload of two creators
abbrev pub two_creators_load : Workload
two_creators_load =
    load 64 1 2 [] ((c1, call.Creat (codes "x")) ∷ (c2, call.Creat (codes "yy")) ∷ [])
    (turns (Client c1) 4 ∷ turns (Client c2) 4 ∷ [])
