-- Laws of what texts spell and why they are refused.
use Rattle.std.specs.Prelude.{◌≡◌, ◌⊎◌, ℕ, List, Result, Ok, Err}
use Rattle.split_types.specs.declared.workload.Workload.{Workload}
use Rattle.split_types.specs.WorkloadText.{Spells}
use Rattle.workload_reader.specs.declared.fault.LineFault.{LineFault}
use Rattle.workload_reader.specs.declared.fault.ReadWorkload.{ReadWorkload}
use Rattle.workload_reader.specs.declared.fault.ReadWorkload.TheVariants as fault
use Rattle.workload_reader.specs.Reading.{Reading}
use Rattle.workload_reader.specs.Refusal.{Refuses}

-- a text spells one workload at most
abbrev pub OneWorkload : Type 0
OneWorkload = (text : List ℕ) (v w : Workload) → Spells text v → Spells text w → v ≡ w

-- and a workload has one text at most
abbrev pub OneText : Type 0
OneText = (s t : List ℕ) (w : Workload) → Spells s w → Spells t w → s ≡ t

-- a text is refused by one line at most, for one cause
abbrev pub OneRefusal : Type 0
OneRefusal = (text : List ℕ) (f g : LineFault) → Refuses text f → Refuses text g → f ≡ g

-- a text that spells a workload is not refused
abbrev pub NeverBoth : Type 0
NeverBoth = (text : List ℕ) (w : Workload) (f : LineFault) → Spells text w → Refuses text f → ⊥

-- the answer to a text is this one, or there was no memory for it
abbrev pub IsOrNone : Result Workload ReadWorkload → Result Workload ReadWorkload → Type 0
IsOrNone due answer = (answer ≡ due) ⊎ (answer ≡ Err fault.Memory)

-- so what is answered to a text is the workload that it spells, and the refusal that it has
pub record IsExact (text : List ℕ) (answer : Result Workload ReadWorkload) : Type 0 where
  pub spelled : (w : Workload) → Spells text w → IsOrNone (Ok w) answer
  pub refused : (f : LineFault) → Refuses text f → IsOrNone (Err (fault.Line f)) answer

abbrev pub ReadingIsExact : Type 0
ReadingIsExact = (text : List ℕ) (answer : Result Workload ReadWorkload) → Reading text answer → IsExact text answer
