-- Workloads that serve as examples of files that come, grow and go, and the history of each.
use Rattle.std.specs.Prelude.{ℕ, ◌+◌, ◌/◌, ◌%◌, List, [], ◌∷◌, map, true, codes}
use Rattle.std.specs.List.{range_with_len}
use Rattle.split_types.specs.declared.actor.Actor.TheVariants.{Client, Wb, Cm, Dq}
use Rattle.split_types.specs.declared.call.Call.TheVariants as call
use Rattle.split_types.specs.declared.call.Reply.TheVariants as reply
use Rattle.split_types.specs.declared.request.ReqKind.TheVariants.{Read, Pages, Log, Commit, Home, Clear}
use Rattle.split_types.specs.declared.workload.Workload.{Workload}
use Rattle.split_types.specs.declared.event.Event.{Event}
use Rattle.split_types.specs.declared.event.Event.TheVariants.{Enter, Admit, Make, Put, Get, Drop, Ret, Serve, Map, Skip, Seal, Add, Send, Done}
use Rattle.split_types.specs.History.{◌▹◌}
use Rattle.split_types.specs.Examples.{c1, c2, file, slot, req, txn, request}
use Rattle.split_types.specs.CacheExamples.{preset, turns, load}

-- two pages for the one block that is free: the second is not written
abbrev pub last_block_load : Workload
last_block_load =
    load 64 1 1 (preset (codes "a") 497 65 ∷ preset (codes "b") 0 0 ∷ []) ((c1, call.Write (codes "b") 0 8192 66) ∷ []) []

abbrev pub last_block : List Event
last_block =
    []
    ▹ Enter c1 0
    ▹ Admit c1
    ▹ Put c1 (file 1) 0 0 4096 66
    ▹ Ret c1 (reply.NoSpace 4096)
    ▹ Serve (file 1) 0 1
    ▹ Map (slot 1) (file 1) 0 1 1023 true 4096
    ▹ Add Wb (request 0 (Pages (file 1) 0) 1023 1)
    ▹ Seal (txn 1) 2
    ▹ Add Cm (request 1 (Log (txn 1)) 262 3)
    ▹ Send (req 0) 52
    ▹ Done 0 (req 0) true
    ▹ Send (req 1) 56
    ▹ Done 0 (req 1) true
    ▹ Add Cm (request 2 (Commit (txn 1)) 525 1)
    ▹ Send (req 2) 52
    ▹ Done 0 (req 2) true
    ▹ Add Cm (request 3 (Home (txn 1)) 1 1)
    ▹ Add Cm (request 4 (Home (txn 1)) 7 1)
    ▹ Send (req 3) 52
    ▹ Done 0 (req 3) true
    ▹ Send (req 4) 22
    ▹ Done 0 (req 4) true
    ▹ Add Cm (request 5 (Clear (txn 1)) 525 1)
    ▹ Send (req 5) 52
    ▹ Done 0 (req 5) true

-- the blocks of a file that was dropped are not free before its drop is on disk, although no other block is left
abbrev pub waiting_blocks_load : Workload
waiting_blocks_load =
    load 64 1 1 (preset (codes "a") 498 65 ∷ preset (codes "b") 0 0 ∷ [])
    ((c1, call.Unlink (codes "a")) ∷ (c1, call.Write (codes "b") 0 4096 66) ∷ []) []

abbrev pub waiting_blocks : List Event
waiting_blocks =
    []
    ▹ Enter c1 0
    ▹ Admit c1
    ▹ Drop c1 (slot 0) (file 0)
    ▹ Ret c1 reply.Done
    ▹ Enter c1 1
    ▹ Admit c1
    ▹ Ret c1 (reply.NoSpace 0)
    ▹ Seal (txn 1) 3
    ▹ Add Cm (request 0 (Log (txn 1)) 262 4)
    ▹ Send (req 0) 58
    ▹ Done 0 (req 0) true
    ▹ Add Cm (request 1 (Commit (txn 1)) 525 1)
    ▹ Send (req 1) 52
    ▹ Done 0 (req 1) true
    ▹ Add Cm (request 2 (Home (txn 1)) 1 1)
    ▹ Add Cm (request 3 (Home (txn 1)) 2 1)
    ▹ Add Cm (request 4 (Home (txn 1)) 6 1)
    ▹ Send (req 2) 52
    ▹ Done 0 (req 2) true
    ▹ Send (req 3) 2
    ▹ Done 0 (req 3) true
    ▹ Send (req 4) 22
    ▹ Done 0 (req 4) true
    ▹ Add Cm (request 5 (Clear (txn 1)) 525 1)
    ▹ Send (req 5) 52
    ▹ Done 0 (req 5) true

-- a file is dropped after the serve of its page and before the page got a block
abbrev pub dropped_in_service_load : Workload
dropped_in_service_load =
    load 64 1 2 (preset (codes "a") 0 0 ∷ [])
    ((c1, call.Write (codes "a") 0 4096 66) ∷ (c2, call.Unlink (codes "a")) ∷ [])
    (turns (Client c1) 4 ∷ turns Wb 1 ∷ turns (Client c2) 4 ∷ [])

abbrev pub dropped_in_service : List Event
dropped_in_service =
    []
    ▹ Enter c1 0
    ▹ Admit c1
    ▹ Put c1 (file 0) 0 0 4096 66
    ▹ Ret c1 reply.Done
    ▹ Serve (file 0) 0 1
    ▹ Enter c2 0
    ▹ Admit c2
    ▹ Drop c2 (slot 0) (file 0)
    ▹ Ret c2 reply.Done
    ▹ Skip
    ▹ Seal (txn 1) 3
    ▹ Add Cm (request 0 (Log (txn 1)) 262 4)
    ▹ Send (req 0) 58
    ▹ Done 0 (req 0) true
    ▹ Add Cm (request 1 (Commit (txn 1)) 525 1)
    ▹ Send (req 1) 52
    ▹ Done 0 (req 1) true
    ▹ Add Cm (request 2 (Home (txn 1)) 1 1)
    ▹ Add Cm (request 3 (Home (txn 1)) 2 1)
    ▹ Add Cm (request 4 (Home (txn 1)) 6 1)
    ▹ Send (req 2) 52
    ▹ Done 0 (req 2) true
    ▹ Send (req 3) 2
    ▹ Done 0 (req 3) true
    ▹ Send (req 4) 22
    ▹ Done 0 (req 4) true
    ▹ Add Cm (request 5 (Clear (txn 1)) 525 1)
    ▹ Send (req 5) 52
    ▹ Done 0 (req 5) true

-- a file is dropped while its page is written out: the page takes no place from then on, and the next write goes on
abbrev pub dropped_in_flight_load : Workload
dropped_in_flight_load =
    load 3 1 2 (preset (codes "a") 1 65 ∷ preset (codes "b") 1 65 ∷ [])
    ((c1, call.Write (codes "a") 0 4096 66) ∷ (c2, call.Unlink (codes "a"))
    ∷ (c1, call.Write (codes "b") 0 4096 67) ∷ [])
    (turns (Client c1) 4 ∷ turns Wb 2 ∷ turns Dq 1 ∷ turns (Client c2) 4 ∷ turns (Client c1) 4 ∷ [])

abbrev pub dropped_in_flight : List Event
dropped_in_flight =
    []
    ▹ Enter c1 0
    ▹ Admit c1
    ▹ Put c1 (file 0) 0 0 4096 66
    ▹ Ret c1 reply.Done
    ▹ Serve (file 0) 0 1
    ▹ Add Wb (request 0 (Pages (file 0) 0) 526 1)
    ▹ Send (req 0) 52
    ▹ Enter c2 0
    ▹ Admit c2
    ▹ Drop c2 (slot 0) (file 0)
    ▹ Ret c2 reply.Done
    ▹ Enter c1 1
    ▹ Admit c1
    ▹ Put c1 (file 1) 0 0 4096 67
    ▹ Ret c1 reply.Done
    ▹ Serve (file 1) 0 1
    ▹ Add Wb (request 1 (Pages (file 1) 0) 527 1)
    ▹ Seal (txn 1) 3
    ▹ Add Cm (request 2 (Log (txn 1)) 262 4)
    ▹ Done 0 (req 0) true
    ▹ Send (req 1) 2
    ▹ Done 0 (req 1) true
    ▹ Send (req 2) 58
    ▹ Done 0 (req 2) true
    ▹ Add Cm (request 3 (Commit (txn 1)) 525 1)
    ▹ Send (req 3) 52
    ▹ Done 0 (req 3) true
    ▹ Add Cm (request 4 (Home (txn 1)) 1 1)
    ▹ Add Cm (request 5 (Home (txn 1)) 2 1)
    ▹ Add Cm (request 6 (Home (txn 1)) 6 1)
    ▹ Send (req 4) 52
    ▹ Done 0 (req 4) true
    ▹ Send (req 5) 2
    ▹ Done 0 (req 5) true
    ▹ Send (req 6) 22
    ▹ Done 0 (req 6) true
    ▹ Add Cm (request 7 (Clear (txn 1)) 525 1)
    ▹ Send (req 7) 52
    ▹ Done 0 (req 7) true

-- a file is dropped while its page is read: the read's call returns before the read is done
abbrev pub dropped_at_read_load : Workload
dropped_at_read_load =
    load 64 1 2 (preset (codes "a") 1 65 ∷ [])
    ((c1, call.Read (codes "a") 0 10) ∷ (c2, call.Unlink (codes "a")) ∷ [])
    (turns (Client c1) 3 ∷ turns Dq 1 ∷ turns (Client c2) 4 ∷ [])

abbrev pub dropped_at_read : List Event
dropped_at_read =
    []
    ▹ Enter c1 0
    ▹ Admit c1
    ▹ Add (Client c1) (request 0 (Read c1 (file 0) 0) 526 1)
    ▹ Send (req 0) 52
    ▹ Enter c2 0
    ▹ Admit c2
    ▹ Drop c2 (slot 0) (file 0)
    ▹ Ret c2 reply.Done
    ▹ Ret c1 reply.NoFile
    ▹ Seal (txn 1) 3
    ▹ Add Cm (request 1 (Log (txn 1)) 262 4)
    ▹ Done 0 (req 0) true
    ▹ Send (req 1) 58
    ▹ Done 0 (req 1) true
    ▹ Add Cm (request 2 (Commit (txn 1)) 525 1)
    ▹ Send (req 2) 52
    ▹ Done 0 (req 2) true
    ▹ Add Cm (request 3 (Home (txn 1)) 1 1)
    ▹ Add Cm (request 4 (Home (txn 1)) 2 1)
    ▹ Add Cm (request 5 (Home (txn 1)) 6 1)
    ▹ Send (req 3) 52
    ▹ Done 0 (req 3) true
    ▹ Send (req 4) 2
    ▹ Done 0 (req 4) true
    ▹ Send (req 5) 22
    ▹ Done 0 (req 5) true
    ▹ Add Cm (request 6 (Clear (txn 1)) 525 1)
    ▹ Send (req 6) 52
    ▹ Done 0 (req 6) true

-- the last page that a file may have is written, and then a byte behind it
abbrev pub largest_file_load : Workload
largest_file_load =
    load 64 1 1 (preset (codes "a") 0 0 ∷ [])
    ((c1, call.Write (codes "a") 4124672 4096 1) ∷ (c1, call.Write (codes "a") 4128768 1 1) ∷ []) []

abbrev pub largest_file : List Event
largest_file =
    []
    ▹ Enter c1 0
    ▹ Admit c1
    ▹ Put c1 (file 0) 1007 0 4096 1
    ▹ Ret c1 reply.Done
    ▹ Enter c1 1
    ▹ Admit c1
    ▹ Ret c1 reply.TooBig
    ▹ Serve (file 0) 1007 1
    ▹ Map (slot 0) (file 0) 1007 1 526 true 4128768
    ▹ Add Wb (request 0 (Pages (file 0) 1007) 526 1)
    ▹ Seal (txn 1) 2
    ▹ Add Cm (request 1 (Log (txn 1)) 262 3)
    ▹ Send (req 0) 52
    ▹ Done 0 (req 0) true
    ▹ Send (req 1) 56
    ▹ Done 0 (req 1) true
    ▹ Add Cm (request 2 (Commit (txn 1)) 525 1)
    ▹ Send (req 2) 52
    ▹ Done 0 (req 2) true
    ▹ Add Cm (request 3 (Home (txn 1)) 1 1)
    ▹ Add Cm (request 4 (Home (txn 1)) 6 1)
    ▹ Send (req 3) 52
    ▹ Done 0 (req 3) true
    ▹ Send (req 4) 22
    ▹ Done 0 (req 4) true
    ▹ Add Cm (request 5 (Clear (txn 1)) 525 1)
    ▹ Send (req 5) 52
    ▹ Done 0 (req 5) true

-- a new file is written behind its start: the page in front has no block, and is read as zeros
abbrev pub hole_load : Workload
hole_load =
    load 64 1 1 []
    ((c1, call.Creat (codes "x")) ∷ (c1, call.Write (codes "x") 5000 10 66) ∷ (c1, call.Read (codes "x") 0 6000) ∷ [])
    []

-- the history, where the first block of data is this one, and the request for it has this cost; the log, which writes
-- three blocks more, costs 6 more
abbrev pub hole_at : ℕ → ℕ → List Event
hole_at block cost =
    []
    ▹ Enter c1 0
    ▹ Admit c1
    ▹ Make c1 (slot 0) (file 0)
    ▹ Ret c1 reply.Done
    ▹ Enter c1 1
    ▹ Admit c1
    ▹ Put c1 (file 0) 1 904 914 66
    ▹ Ret c1 reply.Done
    ▹ Enter c1 2
    ▹ Admit c1
    ▹ Get c1 (file 0) 0 0 4096 0
    ▹ Get c1 (file 0) 1 0 914 660
    ▹ Ret c1 (reply.Count 5010 660)
    ▹ Serve (file 0) 1 1
    ▹ Map (slot 0) (file 0) 1 1 block true 5010
    ▹ Add Wb (request 0 (Pages (file 0) 1) block 1)
    ▹ Seal (txn 1) 3
    ▹ Add Cm (request 1 (Log (txn 1)) 262 4)
    ▹ Send (req 0) cost
    ▹ Done 0 (req 0) true
    ▹ Send (req 1) (cost + 6)
    ▹ Done 0 (req 1) true
    ▹ Add Cm (request 2 (Commit (txn 1)) 525 1)
    ▹ Send (req 2) 52
    ▹ Done 0 (req 2) true
    ▹ Add Cm (request 3 (Home (txn 1)) 1 1)
    ▹ Add Cm (request 4 (Home (txn 1)) 2 1)
    ▹ Add Cm (request 5 (Home (txn 1)) 6 1)
    ▹ Send (req 3) 52
    ▹ Done 0 (req 3) true
    ▹ Send (req 4) 2
    ▹ Done 0 (req 4) true
    ▹ Send (req 5) 22
    ▹ Done 0 (req 5) true
    ▹ Add Cm (request 6 (Clear (txn 1)) 525 1)
    ▹ Send (req 6) 52
    ▹ Done 0 (req 6) true

abbrev pub hole : List Event
hole = hole_at 526 52

-- the same on a disk of the second layout
abbrev pub second_layout_load : Workload
second_layout_load = record hole_load { version = 2; device = 2048 }

abbrev pub second_layout : List Event
second_layout = hole_at 1318 102

-- a file of the name is there already, and none of the names that are asked for next
abbrev pub no_such_names_load : Workload
no_such_names_load =
    load 64 1 1 (preset (codes "a") 0 0 ∷ [])
    ((c1, call.Creat (codes "a")) ∷ (c1, call.Read (codes "zz") 0 1) ∷ (c1, call.Unlink (codes "zz")) ∷ []) []

abbrev pub no_such_names : List Event
no_such_names =
    []
    ▹ Enter c1 0
    ▹ Admit c1
    ▹ Ret c1 reply.Exists
    ▹ Enter c1 1
    ▹ Admit c1
    ▹ Ret c1 reply.NoFile
    ▹ Enter c1 2
    ▹ Admit c1
    ▹ Ret c1 reply.NoFile

-- a slot that a dropped file left is taken first, by a file with a number of its own
abbrev pub slot_again_load : Workload
slot_again_load =
    load 64 1 1 (preset (codes "a") 0 0 ∷ preset (codes "b") 0 0 ∷ [])
    ((c1, call.Unlink (codes "a")) ∷ (c1, call.Creat (codes "a")) ∷ (c1, call.Creat (codes "c")) ∷ []) []

abbrev pub slot_again : List Event
slot_again =
    []
    ▹ Enter c1 0
    ▹ Admit c1
    ▹ Drop c1 (slot 0) (file 0)
    ▹ Ret c1 reply.Done
    ▹ Enter c1 1
    ▹ Admit c1
    ▹ Make c1 (slot 0) (file 2)
    ▹ Ret c1 reply.Done
    ▹ Enter c1 2
    ▹ Admit c1
    ▹ Make c1 (slot 2) (file 3)
    ▹ Ret c1 reply.Done
    ▹ Seal (txn 1) 4
    ▹ Add Cm (request 0 (Log (txn 1)) 262 5)
    ▹ Send (req 0) 60
    ▹ Done 0 (req 0) true
    ▹ Add Cm (request 1 (Commit (txn 1)) 525 1)
    ▹ Send (req 1) 52
    ▹ Done 0 (req 1) true
    ▹ Add Cm (request 2 (Home (txn 1)) 1 1)
    ▹ Add Cm (request 3 (Home (txn 1)) 2 1)
    ▹ Add Cm (request 4 (Home (txn 1)) 6 1)
    ▹ Add Cm (request 5 (Home (txn 1)) 8 1)
    ▹ Send (req 2) 52
    ▹ Done 0 (req 2) true
    ▹ Send (req 3) 2
    ▹ Done 0 (req 3) true
    ▹ Send (req 4) 22
    ▹ Done 0 (req 4) true
    ▹ Send (req 5) 22
    ▹ Done 0 (req 5) true
    ▹ Add Cm (request 6 (Clear (txn 1)) 525 1)
    ▹ Send (req 6) 52
    ▹ Done 0 (req 6) true

-- a name of two letters, a different one for each number below 256
abbrev pub two_letters : ℕ → List ℕ
two_letters k = (97 + k / 16) ∷ (97 + k % 16) ∷ []

-- an empty file in each of the 256 slots, and one that is to be made
abbrev pub no_slot_load : Workload
no_slot_load =
    load 64 1 1 (map (λ k. preset (two_letters k) 0 0) (range_with_len 0 256)) ((c1, call.Creat (codes "new")) ∷ []) []

abbrev pub no_slot : List Event
no_slot =
    []
    ▹ Enter c1 0
    ▹ Admit c1
    ▹ Ret c1 reply.NoSlot
