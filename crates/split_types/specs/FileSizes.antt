-- The sizes of files, and the file that a call works on.
use Rattle.std.specs.Prelude.{ℕ, ◌+◌, ◌*◌, ◌==◌, List, [], max, true, false, Option, Some, None, if◌then◌else◌}
use Rattle.split_types.specs.declared.ids.Serial.{Serial}
use Rattle.split_types.specs.declared.workload.Workload.{Workload}
use Rattle.split_types.specs.declared.event.Event.{Event}
use Rattle.split_types.specs.declared.event.Event.TheVariants.{Admit, Put, Map}
use Rattle.split_types.specs.History.{◌▹◌}
use Rattle.split_types.specs.Workloads.{pages_in}
use Rattle.split_types.specs.Calls.{call_of}
use Rattle.split_types.specs.Files.{is_live, file_for, bound_file}

-- the size of a file: the greatest of the size that it has at the start and the ends of its puts
abbrev pub size_of : Workload → List Event → ℕ → ℕ
size_of w [] s = 4096 * pages_in w s
size_of w (h ▹ Put by t g from to fill) s = if t.0 == s then max (size_of w h s) (4096 * g + to) else size_of w h s
size_of w (h ▹ e) s = size_of w h s

-- the size that its inode says: that of its last map, and before any the size that it has at the start
abbrev pub disk_size_of : Workload → List Event → ℕ → ℕ
disk_size_of w [] s = 4096 * pages_in w s
disk_size_of w (h ▹ Map slot t g n block new size) s = if t.0 == s then size else disk_size_of w h s
disk_size_of w (h ▹ e) s = disk_size_of w h s

-- the file, where it is there
abbrev pub if_live : Workload → List Event → Option Serial → Option Serial
if_live w h None = None
if_live w h (Some s) = if is_live w h s.0 then Some s else None

-- the file that the call of process p under way works on: the one that it is bound to, where it is still there
abbrev pub working_file : Workload → List Event → ℕ → Option Serial
working_file w h p = if_live w h (bound_file w h p)

-- the size of a file, if there is one
abbrev pub size_of_some : Workload → List Event → Option Serial → ℕ
size_of_some w h None = 0
size_of_some w h (Some s) = size_of w h s.0

-- the size that the file had to which the call of process p is bound, when the call was admitted
abbrev pub size_at_admit : Workload → List Event → ℕ → ℕ
size_at_admit w [] p = 0
size_at_admit w (h ▹ Admit by) p =
    elim (by.0 == p) [ true ↦ size_of_some w h (file_for w h (call_of w h p)) | false ↦ size_at_admit w h p ]
size_at_admit w (h ▹ e) p = size_at_admit w h p
