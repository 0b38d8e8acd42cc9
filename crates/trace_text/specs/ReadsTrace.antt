-- What reading a trace gives: the trace whose text this is, or the line that is refused first, and why.
use Rattle.std.specs.Prelude.{◌≡◌, ◌⊎◌, ℕ, ◌+◌, ◌<◌, ◌≤◌, ◌^◌, List, ◌++◌, length, reverse, drop, Result, Ok, Err}
use Rattle.std.specs.Borrow.{Bor}
use Rattle.split_types.specs.declared.event.Event.{Event}
use Rattle.split_types.specs.declared.workload.Workload.{Workload}
use Rattle.split_types.specs.Accepted.{IsAccepted}
use Rattle.split_types.specs.IsWorkload.{most_processes}
use Rattle.split_types.specs.WorkloadText.{workload_text}
use Rattle.split_types.specs.TraceText.{trace_text}
use Rattle.workload_reader.specs.declared.cause.Cause.{Cause}
use Rattle.workload_reader.specs.declared.cause.Cause.TheVariants as cause
use Rattle.workload_reader.specs.declared.fault.LineFault.{LineFault}
use Rattle.workload_reader.specs.declared.fault.ReadWorkload.{ReadWorkload}
use Rattle.workload_reader.specs.declared.fault.ReadWorkload.TheVariants as fault
use Rattle.workload_reader.specs.Refusal.{ReadsFront, RefusesFront}
use Rattle.trace_text.specs.TraceLines.{FirstLine, StopsFirst, IsMispaired, CountLine, StopsCount}
use Rattle.trace_text.specs.Events.{HaveLines, EventsAt, EventRefused}

-- the trace of this workload and these events stands at the front of a text, and this follows it
pub record TraceAt (text : List ℕ) (w : Workload) (events : List Event) (rest : List ℕ) : Type 0 where
  pub accepted : IsAccepted w
  pub lines : HaveLines (most_processes w) (reverse events)
  pub few : length events < 2 ^ 32
  pub text_is : text ≡ trace_text w (reverse events) ++ rest

-- the text is not too long, nor are the workload's lines, and the trace ends at this place of it
pub record SpellsTrace (text : List ℕ) (w : Workload) (events : List Event) (rest : ℕ) : Type 0 where
  pub trace : TraceAt text w events (drop rest text)
  pub within : rest ≤ length text
  pub short : length text ≤ 268435456
  pub short_workload : length (workload_text w) ≤ 16777216

-- the first line of a trace and what follows it, which is no workload of another version
pub record HeadAt (text body : List ℕ) : Type 0 where
  pub version : ℕ
  pub first : FirstLine text version body
  pub paired : IsMispaired version body → ⊥

-- a trace up to the end of its workload's lines, and what follows them
pub record FrontAt (text : List ℕ) (w : Workload) (lines : ℕ) (rest : List ℕ) : Type 0 where
  pub body : List ℕ
  pub head : HeadAt text body
  pub front : ReadsFront body w lines rest

-- which line is refused first, and why: the first one; that of the workload's version, where it is none of the trace's;
-- one of the workload; that of the number of events; or one of an event
pub data LineRefused (text : List ℕ) (line : ℕ) (c : Cause) : Type 0 where
  first_refused : line ≡ 1 → StopsFirst text c → LineRefused text line c
  version_refused : (version : ℕ) (body : List ℕ) → line ≡ 2 → c ≡ cause.Form → FirstLine text version body
      → IsMispaired version body → LineRefused text line c
  workload_refused : (body : List ℕ) (lines : ℕ) → line ≡ 2 + lines → HeadAt text body → RefusesFront body lines c
      → LineRefused text line c
  count_refused : (w : Workload) (lines : ℕ) (rest : List ℕ) → line ≡ 2 + lines → FrontAt text w lines rest
      → StopsCount rest c → LineRefused text line c
  event_refused : (w : Workload) (lines count before : ℕ) (rest events : List ℕ) → line ≡ 3 + lines + before
      → FrontAt text w lines rest
      → CountLine rest count events → EventRefused events (most_processes w) count before c → LineRefused text line c

-- the number of events and the events, and what follows them
pub record BodyAt (text : List ℕ) (most : ℕ) (events : List Event) (rest : List ℕ) : Type 0 where
  pub count : ℕ
  pub after : List ℕ
  pub counted : CountLine text count after
  pub read : EventsAt after most count events rest

-- the lines of a whole trace, of which those of the workload are too long
pub record IsLongInside (text : List ℕ) : Type 0 where
  pub w : Workload
  pub lines : ℕ
  pub last : List ℕ
  pub events : List Event
  pub rest : List ℕ
  pub front : FrontAt text w lines last
  pub body : BodyAt last (most_processes w) events rest
  pub long : 16777216 < length (workload_text w)

-- the first refusal of a text: that it is too long; or that of a line; or that the workload is too long
abbrev pub RefusesTrace : List ℕ → LineFault → Type 0
RefusesTrace text f = by_cause f.line f.cause where
  by_cause : ℕ → Cause → Type 0
  by_cause line cause.Long = (line ≡ 0) × ((268435456 < length text) ⊎ IsLongInside text)
  by_cause line c = (length text ≤ 268435456) × LineRefused text line c

-- what follows the first line of a trace
abbrev pub ReadsHead : List ℕ → Result (Bor (List ℕ)) ReadWorkload → Type 0
ReadsHead text (Ok body) = HeadAt text body.now
ReadsHead text (Err (fault.Line f)) = LineRefused text f.line f.cause
ReadsHead text (Err fault.Memory) = Unit {0}

-- which of their lines is refused first, of which the first one has the number line
pub data BodyRefused (text : List ℕ) (line most refused : ℕ) (c : Cause) : Type 0 where
  at_count : refused ≡ line → StopsCount text c → BodyRefused text line most refused c
  at_event : (count before : ℕ) (events : List ℕ) → refused ≡ line + 1 + before → CountLine text count events
      → EventRefused events most count before c → BodyRefused text line most refused c

abbrev pub ReadsBody : List ℕ → ℕ → ℕ → Result (List Event × Bor (List ℕ)) ReadWorkload → Type 0
ReadsBody text line most (Ok r) = BodyAt text most r.0 r.1.now
ReadsBody text line most (Err (fault.Line f)) = BodyRefused text line most f.line f.cause
ReadsBody text line most (Err fault.Memory) = Unit {0}
