-- The files of a history: which are there, which has a name, and which one a call works on.
use Rattle.std.specs.Prelude.{ℕ, ◌==◌, List, [], nat_lt, length, option_map, is_some, Bool, false, not, ◌&&◌, ◌||◌, Option, Some, None, if◌then◌else◌}
use Rattle.std.specs.Str.{bytes_eq}
use Rattle.split_types.specs.declared.ids.Serial.{Serial}
use Rattle.split_types.specs.declared.call.Call.{Call}
use Rattle.split_types.specs.declared.call.Call.TheVariants.{Creat}
use Rattle.split_types.specs.declared.workload.Workload.{Workload}
use Rattle.split_types.specs.declared.event.Event.{Event}
use Rattle.split_types.specs.declared.event.Event.TheVariants.{Admit, Make, Drop, Ret}
use Rattle.split_types.specs.History.{◌▹◌}
use Rattle.split_types.specs.Workloads.{file_named}
use Rattle.split_types.specs.Calls.{call_of, name_of}

-- the file of this serial is there: it is a preset file or was made, and wasn't dropped
abbrev pub is_live : Workload → List Event → ℕ → Bool
is_live w [] s = nat_lt s (length w.files)
is_live w (h ▹ Make by slot serial) s = serial.0 == s || is_live w h s
is_live w (h ▹ Drop by slot serial) s = not (serial.0 == s) && is_live w h s
is_live w (h ▹ e) s = is_live w h s

-- the call, if there is one, names this name
abbrev pub is_named : Option Call → List ℕ → Bool
is_named None name = false
is_named (Some c) name = bytes_eq (name_of c) name

-- the file, if there is one, where it isn't the one that is dropped
abbrev pub without : Serial → Option Serial → Option Serial
without dropped None = None
without dropped (Some s) = if s.0 == dropped.0 then None else Some s

-- the file of a name that is there; a file that is made has the name of its maker's call
abbrev pub live_named : Workload → List Event → List ℕ → Option Serial
live_named w [] name = option_map (λ s. record { 0 = s }) (file_named w.files name)
live_named w (h ▹ Make by slot serial) name =
    if is_named (call_of w h by.0) name then Some serial else live_named w h name
live_named w (h ▹ Drop by slot serial) name = without serial (live_named w h name)
live_named w (h ▹ e) name = live_named w h name

-- a file of the name of the call, if there is one, is there
abbrev pub is_name_taken : Workload → List Event → Option Call → Bool
is_name_taken w h None = false
is_name_taken w h (Some c) = is_some (live_named w h (name_of c))

-- the file that a call works on where it is admitted after h: the one of its name that is there; a creat works on none
abbrev pub file_for : Workload → List Event → Option Call → Option Serial
file_for w h None = None
file_for w h (Some (Creat name)) = None
file_for w h (Some c) = live_named w h (name_of c)

-- the file that the call of process p is bound to, from when it is admitted until it returns
abbrev pub bound_file : Workload → List Event → ℕ → Option Serial
bound_file w [] p = None
bound_file w (h ▹ Admit by) p = if by.0 == p then file_for w h (call_of w h p) else bound_file w h p
bound_file w (h ▹ Ret by r) p = if by.0 == p then None else bound_file w h p
bound_file w (h ▹ e) p = bound_file w h p
