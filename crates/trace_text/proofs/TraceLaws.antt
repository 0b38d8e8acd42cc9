-- A whole trace, of what was read.
use Rattle.std.proofs.Common.{◌≡◌, ℕ, ◌+◌, ◌-◌, ◌<◌, ◌≤◌, ◌==◌, ◌∙◌, Bool, true, false, List, [], ◌∷◌, ◌++◌, length, reverse, drop, codes, ap, refl, sym, subst, arith, length-append, append_assoc, eqb-true, eq-eqb, Result, Ok, Err, Bor}
use Rattle.std.proofs.Math.Seq.{drop-append_seam}
use Rattle.std.proofs.lemmas.List.{append-nil, reverse-reverse, length-reverse}
use Rattle.split_types.specs.declared.event.Event.{Event}
use Rattle.split_types.specs.declared.workload.Workload.{Workload}
use Rattle.split_types.specs.Accepted.{IsAccepted}
use Rattle.split_types.specs.IsWorkload.{most_processes}
use Rattle.split_types.specs.Lines.{numeral, line, lines_of}
use Rattle.split_types.specs.EventText.{event_words}
use Rattle.split_types.specs.WorkloadText.{workload_text}
use Rattle.split_types.specs.TraceText.{trace_version, trace_text}
use Rattle.workload_reader.specs.declared.cause.Cause.{Cause}
use Rattle.workload_reader.specs.declared.cause.Cause.TheVariants as cause
use Rattle.workload_reader.specs.declared.fault.ReadWorkload.{ReadWorkload}
use Rattle.workload_reader.specs.declared.fault.ReadWorkload.TheVariants as fault
use Rattle.workload_reader.specs.Front.{Fronts}
use Rattle.workload_reader.proofs.FrontLaws.{line-some}
use Rattle.trace_text.specs.declared.reading.TraceParts.{TraceParts}
use Rattle.trace_text.specs.Reading.{ReadsTrace}
use Rattle.workload_reader.specs.Refusal.{ReadsFront}
use Rattle.workload_reader.proofs.Sound.{spelled}
use Rattle.trace_text.specs.TraceLines.{first_text, version_text, count_text, IsMispaired, CountLine}
use Rattle.trace_text.specs.Events.{ReadsEvents}
use Rattle.trace_text.specs.ReadsTrace.{TraceAt, SpellsTrace, HeadAt, LineRefused, first_refused, version_refused, workload_refused, count_refused, event_refused, IsLongInside, RefusesTrace, ReadsHead, BodyAt, BodyRefused, at_count, at_event, ReadsBody}

-- the lines of a workload are its text
pub front_spelled : {body rest : List ℕ} {w : Workload} {lines : ℕ} → ReadsFront body w lines rest
    → IsAccepted w × (body ≡ workload_text w ++ rest)
front_spelled {body} {rest} {w} {lines} front =
    let is = spelled front.before front.right front.ended in
    (subst IsAccepted front.said_is is.0, front.text_is ∙ ap (λ t. t ++ rest) (is.1 ∙ ap workload_text front.said_is))

-- a text that begins with another
pub record Begins (front text : List ℕ) : Type 0 where
  pub more : List ℕ
  pub text_is : text ≡ front ++ more

pub begins_more : {front text : List ℕ} (more : List ℕ) → Begins front text → Begins front (text ++ more)
begins_more {front} {text} more b = record {
  more = b.more ++ more;
  text_is = ap (λ t. t ++ more) b.text_is
      ∙ append_assoc front b.more more;
}

-- a workload's text begins with its version
pub workload_begins : (w : Workload) → Begins (version_text w.version) (workload_text w)
workload_begins w =
    begins_more _
    (begins_more _
    (begins_more _
    (begins_more _
    (begins_more _ (begins_more _ (begins_more _ (begins_more _ (begins_more _ (begins_more _ (begins_more _
    (record { more = []; text_is = sym (append-nil (version_text w.version)) })))))))))))

-- the workload's version is the trace's
same_version : (version : ℕ) (body rest : List ℕ) (w : Workload) → IsAccepted w → body ≡ workload_text w ++ rest
    → (IsMispaired version body → ⊥) → trace_version w.version ≡ version
same_version version body rest w accepted is paired =
    let b = begins_more rest (workload_begins w) in
    by_test (trace_version w.version == version) refl b where
      by_test : (same : Bool) → (trace_version w.version == version) ≡ same
          → Begins (version_text w.version) (workload_text w ++ rest) → trace_version w.version ≡ version
      by_test true e b = eqb-true (trace_version w.version) version e
      by_test false e b = absurd (paired (record {
        other = w.version;
        rest = b.more;
        formed = (accepted.workload.machine.version_least, accepted.workload.machine.version_most);
        text_is = is ∙ b.text_is;
        unlike = λ same. absurd (cc (sym e ∙ eq-eqb (trace_version w.version) version same));
      }))

-- the text of a trace, of the texts of its parts
pub trace_parts : (w : Workload) (events : List Event) (rest : List ℕ) → trace_text w (reverse events) ++ rest
    ≡ first_text (trace_version w.version) ++ (workload_text w
    ++ (count_text (length events) ++ (lines_of event_words events ++ rest)))
trace_parts w events rest =
    let a = first_text (trace_version w.version) in
    let b = workload_text w in
    let c = count_text (length events) in
    let d = lines_of event_words events in
    ap (λ n. (((a ++ b) ++ count_text n) ++ lines_of event_words (reverse (reverse events))) ++ rest)
    (length-reverse events)
    ∙ ap (λ es. (((a ++ b) ++ c) ++ lines_of event_words es) ++ rest) (reverse-reverse events)
    ∙ append_assoc ((a ++ b) ++ c) d rest
    ∙ append_assoc (a ++ b) c (d ++ rest)
    ∙ append_assoc a b (c ++ (d ++ rest))

-- a whole trace was read
pub whole_trace : {text body last rest : List ℕ} {w : Workload} {lines : ℕ} {events : List Event} → HeadAt text body
    → ReadsFront body w lines last → BodyAt last (most_processes w) events rest
    → TraceAt text w events rest
whole_trace {text} {body} {last} {rest} {w} {lines} {events} head front b =
    let is = front_spelled front in
    let version = same_version head.version body last w is.0 is.1 head.paired in
    record {
      accepted = is.0;
      lines = b.read.lines;
      few = let few = b.counted.few in omega (arith, b.read.number, few);
      text_is = head.first.text_is
          ∙ ap (λ v. first_text v ++ body) (sym version)
          ∙ ap (λ l. first_text (trace_version w.version) ++ l) (is.1
          ∙ ap (λ l. workload_text w ++ l) (b.counted.text_is
          ∙ ap (λ n. count_text n ++ b.after) (sym b.read.number)
          ∙ ap (λ l. count_text (length events) ++ l) b.read.text_is))
          ∙ sym (trace_parts w events rest);
    }

-- what stands behind the place where the rest begins
rest_there : (front rest text : List ℕ) (at : ℕ) → text ≡ front ++ rest → at ≡ length text - length rest
    → drop at text ≡ rest
rest_there front rest text at is at_is =
    let place : at ≡ length front = omega (arith, at_is, ap length is, length-append front rest) in
    ap (λ n. drop n text) place ∙ ap (drop (length front)) is ∙ drop-append_seam front rest

-- it spells the trace
pub spells_trace : {text body last rest : List ℕ} {w : Workload} {lines : ℕ} {events : List Event} (at : ℕ)
    → length text ≤ 268435456 → HeadAt text body → ReadsFront body w lines last
    → BodyAt last (most_processes w) events rest → length body - length last ≤ 16777216 → at ≡ length text - length rest
    → SpellsTrace text w events at
spells_trace {text} {body} {last} {rest} {w} {lines} {events} at short head front b inside at_is =
    let trace = whole_trace head front b in
    let here = rest_there (trace_text w (reverse events)) rest text at trace.text_is at_is in
    let is = front_spelled front in
    record {
      trace = subst (TraceAt text w events) (sym here) trace;
      within = omega (arith, at_is);
      short = short;
      short_workload = omega (arith, inside, ap length is.1, length-append (workload_text w) last);
    }

pub long_inside : {text body last rest : List ℕ} {w : Workload} {lines : ℕ} {events : List Event} → HeadAt text body
    → ReadsFront body w lines last
    → BodyAt last (most_processes w) events rest → 16777216 < length body - length last → IsLongInside text
long_inside {text} {body} {last} {rest} {w} {lines} {events} head front b inside =
    let is = front_spelled front in
    record {
      w = w;
      lines = lines;
      last = last;
      events = events;
      rest = rest;
      front = record { body = body; head = head; front = front };
      body = b;
      long = omega (arith, inside, ap length is.1, length-append (workload_text w) last);
    }

-- no line is too long
no_long : {text : List ℕ} {line : ℕ} → LineRefused text line cause.Long → ⊥
no_long (first_refused at stops) = stops
no_long (version_refused version body at is first mispaired) = cc
no_long (workload_refused body lines at head refused) = refused.stops
no_long (count_refused w lines rest at front stops) = stops
no_long (event_refused w lines count before rest events at front counted refused) = refused.stops

-- the refusal of a line
pub refuses : (text : List ℕ) (line : ℕ) (c : Cause) → length text ≤ 268435456 → LineRefused text line c
    → RefusesTrace text (record { line = line; cause = c })
refuses text line cause.Long short refused = absurd (no_long refused)
refuses text line cause.Form short refused = (short, refused)
refuses text line cause.Range short refused = (short, refused)
refuses text line cause.Ref short refused = (short, refused)
refuses text line cause.Name short refused = (short, refused)
refuses text line cause.Limit short refused = (short, refused)
refuses text line cause.Space short refused = (short, refused)
refuses text line cause.NotBuilt short refused = (short, refused)
refuses text line cause.Cut short refused = (short, refused)
refuses text line cause.After short refused = (short, refused)

-- behind the workload
pub body_refused : {text body last : List ℕ} {w : Workload} {lines line refused : ℕ} {c : Cause} → HeadAt text body
    → ReadsFront body w lines last → 2 + lines ≡ line
    → BodyRefused last line (most_processes w) refused c → LineRefused text refused c
body_refused {text} {body} {last} {w} {lines} {line} {refused} {c} head front number (at_count at stops) =
    count_refused w lines last (omega (arith, at, number)) (record { body = body; head = head; front = front }) stops
body_refused {text} {body} {last} {w} {lines} {line} {refused} {c} head front number
    (at_event count before events at counted stops) =
    event_refused w lines count before last events (omega (arith, at, number))
    (record { body = body; head = head; front = front }) counted stops

-- a count's line has a byte at least
pub count_some : {text rest : List ℕ} {n : ℕ} → CountLine text n rest → length rest + 1 ≤ length text
count_some {text} {rest} {n} counted =
    omega (
      arith,
      ap length counted.text_is,
      length-append (count_text n) rest,
      line-some (codes "events" ∷ numeral n ∷ []),
    )

pub body_read : {text rest : List ℕ} {count : ℕ} (line most : ℕ) → CountLine text count rest
    → (r : Result (List Event × Bor (List ℕ)) ReadWorkload) → ReadsEvents rest (line + 1) most count r
    → ReadsBody text line most r
body_read {text} {rest} {count} line most counted (Ok r) read =
    record { count = count; after = rest; counted = counted; read = read }
body_read {text} {rest} {count} line most counted (Err (fault.Line f)) read =
    at_event count read.0 rest (sym read.1) counted read.2
body_read {text} {rest} {count} line most counted (Err fault.Memory) read = tt

-- what follows the first line is no longer than the text
pub head_some : {text body : List ℕ} → HeadAt text body → length body ≤ length text
head_some {text} {body} head = omega (arith, ap length head.first.text_is, length-append (first_text head.version) body)

-- what follows a trace is no longer than what follows its workload
pub body_some : {last rest : List ℕ} {most : ℕ} {events : List Event} → BodyAt last most events rest
    → length rest ≤ length last
body_some {last} {rest} {most} {events} b =
    omega (arith, count_some b.counted, ap length b.read.text_is, length-append (lines_of event_words events) rest)

-- the refusals of the parts are those of the text
pub head_fails : (text : List ℕ) (e : ReadWorkload) → length text ≤ 268435456
    → ReadsHead text (let r : Result (Bor (List ℕ)) ReadWorkload = Err e in r)
    → ReadsTrace text (let r : Result TraceParts ReadWorkload = Err e in r)
head_fails text (fault.Line f) short refused = refuses text f.line f.cause short refused
head_fails text fault.Memory short refused = tt

pub front_fails : {text body : List ℕ} (e : ReadWorkload) → length text ≤ 268435456 → HeadAt text body
    → Fronts body 2 (let r : Result (Workload × Bor (List ℕ) × ℕ) ReadWorkload = Err e in r)
    → ReadsTrace text (let r : Result TraceParts ReadWorkload = Err e in r)
front_fails {text} {body} (fault.Line f) short head refused =
    refuses text f.line f.cause short (workload_refused body refused.0 (sym refused.1) head refused.2)
front_fails {text} {body} fault.Memory short head refused = tt

pub body_fails : {text body last : List ℕ} {w : Workload} {lines line : ℕ} (e : ReadWorkload) → length text ≤ 268435456
    → HeadAt text body → ReadsFront body w lines last → 2 + lines ≡ line
    → (most : ℕ) → most ≡ most_processes w → ReadsBody last line most
    (let r : Result (List Event × Bor (List ℕ)) ReadWorkload = Err e in r)
    → ReadsTrace text (let r : Result TraceParts ReadWorkload = Err e in r)
body_fails {text} {body} {last} {w} {lines} {line} (fault.Line f) short head front number most is refused =
    refuses text f.line f.cause short (body_refused head front number
    (subst (λ m. BodyRefused last line m f.line f.cause) is refused))
body_fails {text} {body} {last} {w} {lines} {line} fault.Memory short head front number most is refused = tt
