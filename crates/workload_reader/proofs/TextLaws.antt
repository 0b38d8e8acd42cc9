-- What a text spells, and why one is refused.
use Rattle.std.proofs.Common.{◌≡◌, ℕ, ◌+◌, ◌<◌, ◌≤◌, ◌∙◌, ◌⊎◌, inl, inr, List, [], length, Result, Ok, Err, ap, refl}
use Rattle.std.proofs.Common.{sym, arith}
use Rattle.split_types.specs.declared.workload.Workload.{Workload}
use Rattle.workload_reader.specs.declared.cause.Cause.{Cause}
use Rattle.workload_reader.specs.declared.cause.Cause.TheVariants as cause
use Rattle.workload_reader.specs.declared.fault.LineFault.{LineFault}
use Rattle.workload_reader.specs.Refusal.{RefusesFront, GoesOn, Refuses}
use Rattle.workload_reader.specs.declared.fault.ReadWorkload.{ReadWorkload}
use Rattle.workload_reader.specs.declared.fault.ReadWorkload.TheVariants as fault
use Rattle.workload_reader.specs.Reading.{Reading}
use Rattle.workload_reader.specs.Laws.{OneWorkload, OneText, OneRefusal, NeverBoth, IsExact, ReadingIsExact}
use Rattle.workload_reader.proofs.Complete.{spelled_front}
use Rattle.workload_reader.proofs.RefusalLaws.{fronts_alike, front_never_refused, one_stop}

pub one_workload : OneWorkload
one_workload text v w p q = (fronts_alike (spelled_front p).1 (spelled_front q).1).workload

pub one_text : OneText
one_text s t w p q = p.text_is ∙ sym q.text_is

-- the three ways in which a text is refused
record TooLong (text : List ℕ) (f : LineFault) : Type 0 where
  line_is : f.line ≡ 0
  cause_is : f.cause ≡ cause.Long
  long : 16777216 < length text

record GoesAfter (text : List ℕ) (f : LineFault) : Type 0 where
  short : length text ≤ 16777216
  lines : ℕ
  line_is : f.line ≡ lines + 1
  cause_is : f.cause ≡ cause.After
  goes : GoesOn text lines

record AtLine (text : List ℕ) (f : LineFault) : Type 0 where
  short : length text ≤ 16777216
  lines : ℕ
  line_is : f.line ≡ lines + 1
  stops : RefusesFront text lines f.cause

refused_by : (text : List ℕ) (line : ℕ) (c : Cause)
    → (let f : LineFault = record { line = line; cause = c } in Refuses text f)
    → (let f : LineFault = record { line = line; cause = c } in TooLong text f ⊎ (GoesAfter text f ⊎ AtLine text f))
refused_by text line cause.Long r = inl (record { line_is = r.0; cause_is = refl; long = r.1 })
refused_by text line cause.After r =
    inr (inl (record { short = r.0; lines = r.1.0; line_is = r.1.1; cause_is = refl; goes = r.1.2 }))
refused_by text line c r = inr (inr (record { short = r.0; lines = r.1.0; line_is = r.1.1; stops = r.1.2 }))

some_rest : {rest : List ℕ} → rest ≡ [] → 0 < length rest → ⊥
some_rest {rest} none some = absurd (omega (arith, ap length none, some))

pub never_both : NeverBoth
never_both text w f p r = by_way (refused_by text f.line f.cause r) where
  by_way : TooLong text f ⊎ (GoesAfter text f ⊎ AtLine text f) → ⊥
  by_way (inl long) = absurd (omega (arith, long.long, p.short))
  by_way (inr (inl after)) =
      some_rest (sym (fronts_alike (spelled_front p).1 after.goes.front).rest) after.goes.some
  by_way (inr (inr at)) = front_never_refused (spelled_front p).1 at.stops

-- faults of one line and one cause are one
same_fault : (f g : LineFault) → f.line ≡ g.line → f.cause ≡ g.cause → f ≡ g
same_fault f g line is =
    ap (λ n. let h : LineFault = record { line = n; cause = f.cause } in h) line
    ∙ ap (λ c. let h : LineFault = record { line = g.line; cause = c } in h) is

pub one_refusal : OneRefusal
one_refusal text f g p q = by_ways (refused_by text f.line f.cause p) (refused_by text g.line g.cause q) where
  by_ways : TooLong text f ⊎ (GoesAfter text f ⊎ AtLine text f) → TooLong text g ⊎ (GoesAfter text g ⊎ AtLine text g)
      → f ≡ g
  by_ways (inl a) (inl b) = same_fault f g (a.line_is ∙ sym b.line_is) (a.cause_is ∙ sym b.cause_is)
  by_ways (inl a) (inr (inl b)) = absurd (omega (arith, a.long, b.short))
  by_ways (inl a) (inr (inr b)) = absurd (omega (arith, a.long, b.short))
  by_ways (inr (inl a)) (inl b) = absurd (omega (arith, b.long, a.short))
  by_ways (inr (inr a)) (inl b) = absurd (omega (arith, b.long, a.short))
  by_ways (inr (inl a)) (inr (inl b)) =
      let same = fronts_alike a.goes.front b.goes.front in
      same_fault f g (a.line_is ∙ ap (λ n. n + 1) same.lines ∙ sym b.line_is) (a.cause_is ∙ sym b.cause_is)
  by_ways (inr (inl a)) (inr (inr b)) = absurd (front_never_refused a.goes.front b.stops)
  by_ways (inr (inr a)) (inr (inl b)) = absurd (front_never_refused b.goes.front a.stops)
  by_ways (inr (inr a)) (inr (inr b)) =
      let same = one_stop a.stops b.stops in
      same_fault f g (a.line_is ∙ ap (λ n. n + 1) same.0 ∙ sym b.line_is) same.1

pub reading_is_exact : ReadingIsExact
reading_is_exact text answer reading = by_answer answer reading where
  by_answer : (answer : Result Workload ReadWorkload) → Reading text answer → IsExact text answer
  by_answer (Ok v) reading = record {
    spelled =
        λ w spells. inl
        (ap (λ x. let r : Result Workload ReadWorkload = Ok x in r) (one_workload text v w reading spells));
    refused = λ f refuses. absurd (never_both text v f reading refuses);
  }
  by_answer (Err (fault.Line g)) reading = record {
    spelled = λ w spells. absurd (never_both text w g spells reading);
    refused =
        λ f refuses. inl
        (ap (λ x. let r : Result Workload ReadWorkload = Err (fault.Line x) in r)
        (one_refusal text g f reading refuses));
  }
  by_answer (Err fault.Memory) reading = record { spelled = λ w spells. inr refl; refused = λ f refuses. inr refl }
