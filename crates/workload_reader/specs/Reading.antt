-- What reading a workload's text gives.
use Rattle.std.specs.Prelude.{ℕ, List, Result, Ok, Err}
use Rattle.split_types.specs.declared.workload.Workload.{Workload}
use Rattle.split_types.specs.WorkloadText.{Spells}
use Rattle.workload_reader.specs.declared.fault.ReadWorkload.{ReadWorkload}
use Rattle.workload_reader.specs.declared.fault.ReadWorkload.TheVariants as fault
use Rattle.workload_reader.specs.Refusal.{Refuses}

-- the workload that the text spells, or which line is refused and why; and of a lack of memory nothing
abbrev pub Reading : List ℕ → Result Workload ReadWorkload → Type 0
Reading text (Ok w) = Spells text w
Reading text (Err (fault.Line f)) = Refuses text f
Reading text (Err fault.Memory) = Unit {0}
