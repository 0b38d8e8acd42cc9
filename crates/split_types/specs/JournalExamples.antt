-- Workloads that serve as examples of the journal, and the history of each.
use Rattle.std.specs.Prelude.{List, [], ◌∷◌, true, codes}
use Rattle.split_types.specs.declared.actor.Actor.TheVariants.{Client, Wb, Cm, Dq, Dn}
use Rattle.split_types.specs.declared.call.Call.TheVariants as call
use Rattle.split_types.specs.declared.call.Reply.TheVariants as reply
use Rattle.split_types.specs.declared.request.ReqKind.TheVariants.{Pages, Log, Commit, Home, Clear}
use Rattle.split_types.specs.declared.workload.Workload.{Workload}
use Rattle.split_types.specs.declared.event.Event.{Event}
use Rattle.split_types.specs.declared.event.Event.TheVariants.{Enter, Admit, Put, Flushed, Ret, Serve, Map, Seal, Add, Send, Done}
use Rattle.split_types.specs.History.{◌▹◌}
use Rattle.split_types.specs.Examples.{c1, c2, c3, file, slot, req, txn, request}
use Rattle.split_types.specs.CacheExamples.{preset, turns, load}

-- three processes make a file each, and one of them asks for its file to be on disk
abbrev pub creators_load : Workload
creators_load =
    load 64 1 3 []
    ((c1, call.Creat (codes "x")) ∷ (c1, call.Fsync (codes "x")) ∷ (c2, call.Creat (codes "y")) ∷ (c3, call.Creat (codes "z")) ∷ [])
    (turns (Client c1) 4 ∷ turns (Client c2) 4 ∷ turns (Client c3) 4 ∷ [])

-- a file is written, two requests at a time, and the log is done before the data: the commit request waits for that
abbrev pub data_before_commit_load : Workload
data_before_commit_load =
    load 64 2 1 (preset (codes "a") 0 0 ∷ [])
    ((c1, call.Write (codes "a") 0 4096 66) ∷ [])
    (turns (Client c1) 4 ∷ turns Wb 3 ∷ turns Cm 2 ∷ turns Dq 2 ∷ turns (Dn 1) 1 ∷ turns Cm 1 ∷ turns Dq 1 ∷ turns (Dn 0) 1 ∷ turns Dq 1 ∷ [])

abbrev pub data_before_commit : List Event
data_before_commit =
    []
    ▹ Enter c1 0
    ▹ Admit c1
    ▹ Put c1 (file 0) 0 0 4096 66
    ▹ Ret c1 reply.Done
    ▹ Serve (file 0) 0 1
    ▹ Map (slot 0) (file 0) 0 1 526 true 4096
    ▹ Add Wb (request 0 (Pages (file 0) 0) 526 1)
    ▹ Seal (txn 1) 2
    ▹ Add Cm (request 1 (Log (txn 1)) 262 3)
    ▹ Send (req 0) 52
    ▹ Send (req 1) 56
    ▹ Done 1 (req 1) true
    ▹ Add Cm (request 2 (Commit (txn 1)) 525 1)
    ▹ Done 0 (req 0) true
    ▹ Send (req 2) 52
    ▹ Done 0 (req 2) true
    ▹ Add Cm (request 3 (Home (txn 1)) 1 1)
    ▹ Add Cm (request 4 (Home (txn 1)) 6 1)
    ▹ Send (req 3) 52
    ▹ Send (req 4) 22
    ▹ Done 0 (req 3) true
    ▹ Done 0 (req 4) true
    ▹ Add Cm (request 5 (Clear (txn 1)) 525 1)
    ▹ Send (req 5) 52
    ▹ Done 0 (req 5) true

-- a file is written, in a journal of four slots
abbrev pub one_of_four_load : Workload
one_of_four_load =
    record (load 64 1 1 (preset (codes "a") 0 0 ∷ [])
    ((c1, call.Write (codes "a") 0 4096 66) ∷ [])
    []) { version = 2; device = 2048 }

abbrev pub one_of_four : List Event
one_of_four =
    []
    ▹ Enter c1 0
    ▹ Admit c1
    ▹ Put c1 (file 0) 0 0 4096 66
    ▹ Ret c1 reply.Done
    ▹ Serve (file 0) 0 1
    ▹ Map (slot 0) (file 0) 0 1 1318 true 4096
    ▹ Add Wb (request 0 (Pages (file 0) 0) 1318 1)
    ▹ Seal (txn 1) 2
    ▹ Add Cm (request 1 (Log (txn 1)) 262 3)
    ▹ Send (req 0) 102
    ▹ Done 0 (req 0) true
    ▹ Send (req 1) 106
    ▹ Done 0 (req 1) true
    ▹ Add Cm (request 2 (Commit (txn 1)) 525 1)
    ▹ Send (req 2) 52
    ▹ Done 0 (req 2) true
    ▹ Add Cm (request 3 (Home (txn 1)) 1 1)
    ▹ Add Cm (request 4 (Home (txn 1)) 6 1)
    ▹ Send (req 3) 52
    ▹ Done 0 (req 3) true
    ▹ Send (req 4) 22
    ▹ Done 0 (req 4) true
    ▹ Add Cm (request 5 (Clear (txn 1)) 525 1)
    ▹ Send (req 5) 52
    ▹ Done 0 (req 5) true

-- two processes make a file each and ask for it to be on disk, in a journal of four slots: both transactions go home
-- together
abbrev pub late_load : Workload
late_load =
    record (load 64 1 2 []
    ((c1, call.Creat (codes "x")) ∷ (c1, call.Fsync (codes "x")) ∷ (c2, call.Creat (codes "y")) ∷ (c2, call.Fsync (codes "y")) ∷ [])
    (turns (Client c1) 7 ∷ turns Cm 2 ∷ turns Dq 1 ∷ turns (Dn 0) 1 ∷ turns Cm 1 ∷ turns Dq 1 ∷ turns (Dn 0) 1 ∷ [])) { version = 2; device = 2048 }

-- a map waits for its add, and nothing is sealed meanwhile
abbrev pub map_before_seal_load : Workload
map_before_seal_load =
    load 64 1 1 (preset (codes "a") 0 0 ∷ [])
    ((c1, call.Write (codes "a") 0 4096 66) ∷ [])
    (turns (Client c1) 4 ∷ turns Wb 2 ∷ turns Cm 1 ∷ [])

abbrev pub map_before_seal : List Event
map_before_seal =
    []
    ▹ Enter c1 0
    ▹ Admit c1
    ▹ Put c1 (file 0) 0 0 4096 66
    ▹ Ret c1 reply.Done
    ▹ Serve (file 0) 0 1
    ▹ Map (slot 0) (file 0) 0 1 526 true 4096
    ▹ Add Wb (request 0 (Pages (file 0) 0) 526 1)
    ▹ Seal (txn 1) 2
    ▹ Add Cm (request 1 (Log (txn 1)) 262 3)
    ▹ Send (req 0) 52
    ▹ Done 0 (req 0) true
    ▹ Send (req 1) 56
    ▹ Done 0 (req 1) true
    ▹ Add Cm (request 2 (Commit (txn 1)) 525 1)
    ▹ Send (req 2) 52
    ▹ Done 0 (req 2) true
    ▹ Add Cm (request 3 (Home (txn 1)) 1 1)
    ▹ Add Cm (request 4 (Home (txn 1)) 6 1)
    ▹ Send (req 3) 52
    ▹ Done 0 (req 3) true
    ▹ Send (req 4) 22
    ▹ Done 0 (req 4) true
    ▹ Add Cm (request 5 (Clear (txn 1)) 525 1)
    ▹ Send (req 5) 52
    ▹ Done 0 (req 5) true

-- a page is written to a file that has no block for it, and the file is asked to be on disk
abbrev pub synced_load : Workload
synced_load =
    load 64 1 1 (preset (codes "a") 0 0 ∷ [])
    ((c1, call.Write (codes "a") 0 4096 66) ∷ (c1, call.Fsync (codes "a")) ∷ [])
    []

abbrev pub synced : List Event
synced =
    []
    ▹ Enter c1 0
    ▹ Admit c1
    ▹ Put c1 (file 0) 0 0 4096 66
    ▹ Ret c1 reply.Done
    ▹ Enter c1 1
    ▹ Admit c1
    ▹ Serve (file 0) 0 1
    ▹ Map (slot 0) (file 0) 0 1 526 true 4096
    ▹ Add Wb (request 0 (Pages (file 0) 0) 526 1)
    ▹ Seal (txn 1) 2
    ▹ Add Cm (request 1 (Log (txn 1)) 262 3)
    ▹ Send (req 0) 52
    ▹ Done 0 (req 0) true
    ▹ Flushed c1
    ▹ Send (req 1) 56
    ▹ Done 0 (req 1) true
    ▹ Add Cm (request 2 (Commit (txn 1)) 525 1)
    ▹ Send (req 2) 52
    ▹ Done 0 (req 2) true
    ▹ Ret c1 reply.Done
    ▹ Add Cm (request 3 (Home (txn 1)) 1 1)
    ▹ Add Cm (request 4 (Home (txn 1)) 6 1)
    ▹ Send (req 3) 52
    ▹ Done 0 (req 3) true
    ▹ Send (req 4) 22
    ▹ Done 0 (req 4) true
    ▹ Add Cm (request 5 (Clear (txn 1)) 525 1)
    ▹ Send (req 5) 52
    ▹ Done 0 (req 5) true
