-- What reading a trace gives.
use Rattle.std.specs.Prelude.{ℕ, List, Result, Ok, Err}
use Rattle.trace_text.specs.declared.reading.TraceParts.{TraceParts}
use Rattle.workload_reader.specs.declared.fault.ReadWorkload.{ReadWorkload}
use Rattle.workload_reader.specs.declared.fault.ReadWorkload.TheVariants as fault
use Rattle.trace_text.specs.ReadsTrace.{SpellsTrace, RefusesTrace}

-- the trace that the text begins with, or which line is refused and why; and of a lack of memory nothing
abbrev pub ReadsTrace : List ℕ → Result TraceParts ReadWorkload → Type 0
ReadsTrace text (Ok t) = SpellsTrace text t.w t.events t.rest
ReadsTrace text (Err (fault.Line f)) = RefusesTrace text f
ReadsTrace text (Err fault.Memory) = Unit {0}
