-- Laws of which texts are traces, and why others are refused.
use Rattle.std.specs.Prelude.{◌≡◌, ◌⊎◌, ℕ, ◌<◌, ◌≤◌, ◌^◌, List, ◌++◌, length, reverse, Result, Ok, Err}
use Rattle.split_types.specs.declared.event.Event.{Event}
use Rattle.split_types.specs.declared.workload.Workload.{Workload}
use Rattle.split_types.specs.Accepted.{IsAccepted}
use Rattle.split_types.specs.IsWorkload.{most_processes}
use Rattle.split_types.specs.Legal.{IsLegal}
use Rattle.split_types.specs.WorkloadText.{workload_text}
use Rattle.split_types.specs.TraceText.{trace_text}
use Rattle.workload_reader.specs.declared.fault.LineFault.{LineFault}
use Rattle.workload_reader.specs.declared.fault.ReadWorkload.{ReadWorkload}
use Rattle.workload_reader.specs.declared.fault.ReadWorkload.TheVariants as fault
use Rattle.trace_text.specs.declared.reading.TraceParts.{TraceParts}
use Rattle.trace_text.specs.Events.{HaveLines}
use Rattle.trace_text.specs.ReadsTrace.{SpellsTrace, RefusesTrace}
use Rattle.trace_text.specs.Reading.{ReadsTrace}

-- the text begins with the trace of these parts
abbrev pub Spells : List ℕ → TraceParts → Type 0
Spells text t = SpellsTrace text t.w t.events t.rest

-- a text begins with one trace at most: that of one workload and one list of events, up to one place
abbrev pub OneTrace : Type 0
OneTrace = (text : List ℕ) (s t : TraceParts) → Spells text s → Spells text t → s ≡ t

-- a text is refused by one line at most, for one cause
abbrev pub OneRefusal : Type 0
OneRefusal = (text : List ℕ) (f g : LineFault) → RefusesTrace text f → RefusesTrace text g → f ≡ g

-- a text that begins with a trace is not refused
abbrev pub NeverBoth : Type 0
NeverBoth = (text : List ℕ) (t : TraceParts) (f : LineFault) → Spells text t → RefusesTrace text f → ⊥

-- the answer to a text is this one, or there was no memory for it
abbrev pub IsOrNone : Result TraceParts ReadWorkload → Result TraceParts ReadWorkload → Type 0
IsOrNone due answer = (answer ≡ due) ⊎ (answer ≡ Err fault.Memory)

-- so what is answered to a text is the trace that it begins with, and the refusal that it has
pub record IsExact (text : List ℕ) (answer : Result TraceParts ReadWorkload) : Type 0 where
  pub spelled : (t : TraceParts) → Spells text t → IsOrNone (Ok t) answer
  pub refused : (f : LineFault) → RefusesTrace text f → IsOrNone (Err (fault.Line f)) answer

abbrev pub ReadingIsExact : Type 0
ReadingIsExact =
    (text : List ℕ) (answer : Result TraceParts ReadWorkload) → ReadsTrace text answer → IsExact text answer

-- a workload and a history whose trace can be read where this follows it: the workload is accepted, the events have
-- lines, and neither text is too long
pub record IsReadable (w : Workload) (h : List Event) (rest : List ℕ) : Type 0 where
  pub accepted : IsAccepted w
  pub lines : HaveLines (most_processes w) h
  pub few : length h < 2 ^ 32
  pub short : length (trace_text w h ++ rest) ≤ 268435456
  pub short_workload : length (workload_text w) ≤ 16777216

-- what a printed trace says, and where it ends
abbrev pub printed : Workload → List Event → TraceParts
printed w h = record { w = w; events = reverse h; rest = length (trace_text w h) }

-- the trace that was printed is read as the workload and the history that it was printed of, whatever follows it
abbrev pub PrintedTracesAreRead : Type 0
PrintedTracesAreRead =
    (w : Workload) (h : List Event) (rest : List ℕ) (answer : Result TraceParts ReadWorkload) → IsReadable w h rest
    → ReadsTrace (trace_text w h ++ rest) answer → IsOrNone (Ok (printed w h)) answer

-- so is that of each legal history of an accepted workload, where neither text is too long
abbrev pub LegalTracesAreRead : Type 0
LegalTracesAreRead =
    (w : Workload) (h : List Event) (rest : List ℕ) (answer : Result TraceParts ReadWorkload) → IsAccepted w
    → IsLegal w h
    → length (trace_text w h ++ rest) ≤ 268435456 → length (workload_text w) ≤ 16777216
    → ReadsTrace (trace_text w h ++ rest) answer → IsOrNone (Ok (printed w h)) answer
