-- Which trace a text begins with, and why one is refused.
use Rattle.std.proofs.Common.{◌≡◌, ℕ, ◌<◌, ◌≤◌, ◌∙◌, ◌⊎◌, inl, inr, List, ◌++◌, length, drop, Result, Ok, Err, ap, refl, sym, subst, arith, length-append}
use Rattle.std.proofs.Math.Seq.{drop-append_seam}
use Rattle.std.proofs.lemmas.List.{reverse-reverse, length-reverse, length-drop}
use Rattle.split_types.specs.declared.event.Event.{Event}
use Rattle.split_types.specs.declared.workload.Workload.{Workload}
use Rattle.split_types.specs.IsWorkload.{most_processes}
use Rattle.split_types.specs.WorkloadText.{workload_text}
use Rattle.split_types.specs.TraceText.{trace_text}
use Rattle.workload_reader.specs.declared.cause.Cause.{Cause}
use Rattle.workload_reader.specs.declared.cause.Cause.TheVariants as cause
use Rattle.workload_reader.specs.declared.fault.LineFault.{LineFault}
use Rattle.workload_reader.specs.declared.fault.ReadWorkload.{ReadWorkload}
use Rattle.workload_reader.specs.declared.fault.ReadWorkload.TheVariants as fault
use Rattle.trace_text.specs.declared.reading.TraceParts.{TraceParts}
use Rattle.trace_text.specs.Events.{HaveLines}
use Rattle.trace_text.specs.ReadsTrace.{RefusesTrace, LineRefused, IsLongInside}
use Rattle.trace_text.specs.Reading.{ReadsTrace}
use Rattle.trace_text.specs.Laws.{Spells, OneTrace, OneRefusal, NeverBoth, IsExact, ReadingIsExact, IsReadable, printed, PrintedTracesAreRead, LegalTracesAreRead}
use Rattle.trace_text.proofs.LegalLines.{few, legal_lines}
use Rattle.trace_text.proofs.RefusalLaws.{PartsAt, parts_of, parts_alike, parts_never_refused, one_line}

-- a place in a text is as far from its front as what follows it says
one_place : (text : List ℕ) (m n : ℕ) → m ≤ length text → n ≤ length text → drop m text ≡ drop n text → m ≡ n
one_place text m n small_m small_n same =
    omega (arith, small_m, small_n, ap length same, length-drop m text, length-drop n text)

same_parts : (s t : TraceParts) → s.w ≡ t.w → s.events ≡ t.events → s.rest ≡ t.rest → s ≡ t
same_parts s t w events rest =
    ap (λ v. let r : TraceParts = record { w = v; events = s.events; rest = s.rest } in r) w
    ∙ ap (λ es. let r : TraceParts = record { w = t.w; events = es; rest = s.rest } in r) events
    ∙ ap (λ n. let r : TraceParts = record { w = t.w; events = t.events; rest = n } in r) rest

pub one_trace : OneTrace
one_trace text s t p q =
    let same = parts_alike (parts_of p.trace p.short_workload) (parts_of q.trace q.short_workload) in
    same_parts s t same.workload same.events (one_place text s.rest t.rest p.within q.within same.rest)

-- the three ways in which a text is refused
record TooLong (text : List ℕ) (f : LineFault) : Type 0 where
  line_is : f.line ≡ 0
  cause_is : f.cause ≡ cause.Long
  long : 268435456 < length text

record TooLongInside (text : List ℕ) (f : LineFault) : Type 0 where
  line_is : f.line ≡ 0
  cause_is : f.cause ≡ cause.Long
  long : IsLongInside text

record AtLine (text : List ℕ) (f : LineFault) : Type 0 where
  short : length text ≤ 268435456
  refused : LineRefused text f.line f.cause

refused_by : (text : List ℕ) (line : ℕ) (c : Cause)
    → (let f : LineFault = record { line = line; cause = c } in RefusesTrace text f)
    → (let f : LineFault = record { line = line; cause = c } in TooLong text f ⊎ (TooLongInside text f ⊎ AtLine text f))
refused_by text line cause.Long r = by_part r.1 where
  by_part : (268435456 < length text) ⊎ IsLongInside text
      → (let f : LineFault = record { line = line; cause = cause.Long } in
      TooLong text f ⊎ (TooLongInside text f ⊎ AtLine text f))
  by_part (inl long) = inl (record { line_is = r.0; cause_is = refl; long = long })
  by_part (inr long) = inr (inl (record { line_is = r.0; cause_is = refl; long = long }))
refused_by text line c r = inr (inr (record { short = r.0; refused = r.1 }))

-- a trace with a workload that is too long has its parts
parts_inside : {text : List ℕ} (l : IsLongInside text) → PartsAt text l.w l.events l.rest
parts_inside l = record { lines = l.lines; last = l.last; front = l.front; body = l.body }

pub never_both : NeverBoth
never_both text t f p r = by_way (refused_by text f.line f.cause r) where
  by_way : TooLong text f ⊎ (TooLongInside text f ⊎ AtLine text f) → ⊥
  by_way (inl a) = absurd (omega (arith, a.long, p.short))
  by_way (inr (inl a)) =
      let long = a.long.long in
      let one = parts_alike (parts_of p.trace p.short_workload) (parts_inside a.long) in
      let same = ap (λ w. length (workload_text w)) one.workload in
      absurd (omega (arith, long, same, p.short_workload))
  by_way (inr (inr a)) = parts_never_refused f.line f.cause (parts_of p.trace p.short_workload) a.refused

-- faults of one line and one cause are one
same_fault : (f g : LineFault) → f.line ≡ g.line → f.cause ≡ g.cause → f ≡ g
same_fault f g line is =
    ap (λ n. let h : LineFault = record { line = n; cause = f.cause } in h) line
    ∙ ap (λ c. let h : LineFault = record { line = g.line; cause = c } in h) is

pub one_refusal : OneRefusal
one_refusal text f g p q = by_ways (refused_by text f.line f.cause p) (refused_by text g.line g.cause q) where
  by_ways : TooLong text f ⊎ (TooLongInside text f ⊎ AtLine text f)
      → TooLong text g ⊎ (TooLongInside text g ⊎ AtLine text g) → f ≡ g
  by_ways (inl a) (inl b) = same_fault f g (a.line_is ∙ sym b.line_is) (a.cause_is ∙ sym b.cause_is)
  by_ways (inl a) (inr (inl b)) = same_fault f g (a.line_is ∙ sym b.line_is) (a.cause_is ∙ sym b.cause_is)
  by_ways (inl a) (inr (inr b)) = absurd (omega (arith, a.long, b.short))
  by_ways (inr (inl a)) (inl b) = same_fault f g (a.line_is ∙ sym b.line_is) (a.cause_is ∙ sym b.cause_is)
  by_ways (inr (inl a)) (inr (inl b)) = same_fault f g (a.line_is ∙ sym b.line_is) (a.cause_is ∙ sym b.cause_is)
  by_ways (inr (inl a)) (inr (inr b)) = absurd (parts_never_refused g.line g.cause (parts_inside a.long) b.refused)
  by_ways (inr (inr a)) (inl b) = absurd (omega (arith, b.long, a.short))
  by_ways (inr (inr a)) (inr (inl b)) = absurd (parts_never_refused f.line f.cause (parts_inside b.long) a.refused)
  by_ways (inr (inr a)) (inr (inr b)) = let same = one_line a.refused b.refused in same_fault f g same.0 same.1

pub reading_is_exact : ReadingIsExact
reading_is_exact text answer reading = by_answer answer reading where
  by_answer : (answer : Result TraceParts ReadWorkload) → ReadsTrace text answer → IsExact text answer
  by_answer (Ok s) reading = record {
    spelled =
        λ t spells. inl (ap (λ x. let r : Result TraceParts ReadWorkload = Ok x in r)
        (one_trace text s t reading spells));
    refused = λ f refuses. absurd (never_both text s f reading refuses);
  }
  by_answer (Err (fault.Line g)) reading = record {
    spelled = λ t spells. absurd (never_both text t g spells reading);
    refused =
        λ f refuses. inl
        (ap (λ x. let r : Result TraceParts ReadWorkload = Err (fault.Line x) in r)
        (one_refusal text g f reading refuses));
  }
  by_answer (Err fault.Memory) reading = record { spelled = λ t spells. inr refl; refused = λ f refuses. inr refl }

-- what was printed begins with its trace
printed_spells : (w : Workload) (h : List Event) (rest : List ℕ) → IsReadable w h rest
    → Spells (trace_text w h ++ rest) (printed w h)
printed_spells w h rest is = record {
  trace = record {
    accepted = is.accepted;
    lines = subst (HaveLines (most_processes w)) (sym (reverse-reverse h)) is.lines;
    few = let few = is.few in omega (arith, few, length-reverse h);
    text_is = ap (λ t. trace_text w h ++ t) (sym (drop-append_seam (trace_text w h) rest))
        ∙ ap (λ es. trace_text w es ++ drop (length (trace_text w h)) (trace_text w h ++ rest))
        (sym (reverse-reverse h));
  };
  within = omega (arith, length-append (trace_text w h) rest);
  short = is.short;
  short_workload = is.short_workload;
}

pub printed_traces_are_read : PrintedTracesAreRead
printed_traces_are_read w h rest answer is reading =
    (reading_is_exact (trace_text w h ++ rest) answer reading).spelled (printed w h) (printed_spells w h rest is)

pub legal_traces_are_read : LegalTracesAreRead
legal_traces_are_read w h rest answer accepted legal short short_workload reading =
    printed_traces_are_read w h rest answer
    (record {
      accepted = accepted;
      lines = legal_lines w h accepted legal;
      few = few w h accepted legal;
      short = short;
      short_workload = short_workload;
    }) reading
