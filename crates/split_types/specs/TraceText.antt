-- The text of a trace: the workload, and the events from the oldest on.
use Rattle.std.specs.Prelude.{ℕ, ◌==◌, List, [], ◌∷◌, ◌++◌, length, reverse, codes, if◌then◌else◌}
use Rattle.split_types.specs.declared.event.Event.{Event}
use Rattle.split_types.specs.declared.workload.Workload.{Workload}
use Rattle.split_types.specs.Lines.{numeral, line, lines_of}
use Rattle.split_types.specs.WorkloadText.{workload_text}
use Rattle.split_types.specs.EventText.{event_words}

-- the number on a trace's first line: 2 for workloads of version 3, and 1 for all others
abbrev pub trace_version : ℕ → ℕ
trace_version version = if version == 3 then 2 else 1

abbrev pub trace_text : Workload → List Event → List ℕ
trace_text w h =
    line (codes "splittrace" ∷ numeral (trace_version w.version) ∷ [])
    ++ workload_text w
    ++ line (codes "events" ∷ numeral (length h) ∷ [])
    ++ lines_of event_words (reverse h)
