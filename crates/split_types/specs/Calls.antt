-- How far each process has come in its calls.
use Rattle.std.specs.Prelude.{ℕ, ◌+◌, ◌-◌, ◌==◌, List, [], length, slice_get, Bool, false, not, ◌&&◌, ◌||◌, Option, if◌then◌else◌}
use Rattle.split_types.specs.declared.call.Call.{Call}
use Rattle.split_types.specs.declared.call.Call.TheVariants.{Creat, Write, Read, Fsync, Unlink}
use Rattle.split_types.specs.declared.workload.Workload.{Workload}
use Rattle.split_types.specs.declared.event.Event.{Event}
use Rattle.split_types.specs.declared.event.Event.TheVariants.{Enter, Admit, Make, Put, Get, Drop, Flushed, Ret}
use Rattle.split_types.specs.History.{◌▹◌}
use Rattle.split_types.specs.Workloads.{calls_of}

-- how many calls of process p have returned
abbrev pub returned : List Event → ℕ → ℕ
returned [] p = 0
returned (h ▹ Ret by r) p = if by.0 == p then returned h p + 1 else returned h p
returned (h ▹ e) p = returned h p

-- a call of process p is under way: it was entered, and hasn't returned
abbrev pub is_entered : List Event → ℕ → Bool
is_entered [] p = false
is_entered (h ▹ Enter by k) p = by.0 == p || is_entered h p
is_entered (h ▹ Ret by r) p = not (by.0 == p) && is_entered h p
is_entered (h ▹ e) p = is_entered h p

-- the call of process p under way was admitted
abbrev pub is_admitted : List Event → ℕ → Bool
is_admitted [] p = false
is_admitted (h ▹ Admit by) p = by.0 == p || is_admitted h p
is_admitted (h ▹ Ret by r) p = not (by.0 == p) && is_admitted h p
is_admitted (h ▹ e) p = is_admitted h p

-- the call of process p under way made its file, dropped it, or was flushed
abbrev pub has_acted : List Event → ℕ → Bool
has_acted [] p = false
has_acted (h ▹ Make by slot serial) p = by.0 == p || has_acted h p
has_acted (h ▹ Drop by slot serial) p = by.0 == p || has_acted h p
has_acted (h ▹ Flushed by) p = by.0 == p || has_acted h p
has_acted (h ▹ Ret by r) p = not (by.0 == p) && has_acted h p
has_acted (h ▹ e) p = has_acted h p

-- how many bytes process p has put or got since it last entered a call
abbrev pub moved : List Event → ℕ → ℕ
moved [] p = 0
moved (h ▹ Enter by k) p = if by.0 == p then 0 else moved h p
moved (h ▹ Put by serial page from to fill) p = if by.0 == p then moved h p + (to - from) else moved h p
moved (h ▹ Get by serial page from to sum) p = if by.0 == p then moved h p + (to - from) else moved h p
moved (h ▹ e) p = moved h p

-- the call of process p that is under way, or else its next call; none where no call is left
abbrev pub call_of : Workload → List Event → ℕ → Option Call
call_of w h p = slice_get (calls_of w p) (returned h p)

-- all calls of process p have returned
abbrev pub is_finished : Workload → List Event → ℕ → Bool
is_finished w h p = returned h p == length (calls_of w p)

-- the name that a call names
abbrev pub name_of : Call → List ℕ
name_of (Creat name) = name
name_of (Write name off len fill) = name
name_of (Read name off len) = name
name_of (Fsync name) = name
name_of (Unlink name) = name
