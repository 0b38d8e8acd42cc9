use Rattle.std.proofs.Common.{refl, inl, inr, arith}
use Rattle.std.proofs.lemmas.Result.{err_from_is_err_and}
use Rattle.workload_reader.proofs.FrontLaws.{front_some}
use Rattle.trace_text.proofs.TraceLaws.{spells_trace, long_inside, head_some, head_fails, front_fails, body_fails}
use Rattle.trace_text.proofs.reading.read_trace.Goals as goal

pub returns-then-text-gt268435456 : goal.returns-then-text-gt268435456
returns-then-text-gt268435456 c = rw c.refused.ensures (refl, inl c.if-text-gt268435456.true)

pub returns-in_err-body : goal.returns-in_err-body
returns-in_err-body c =
    let p = err_from_is_err_and c.from_residual.result c.from_residual.ensures.1 in
    rw (p.1, p.2) (head_fails _ _ c.if-text-gt268435456.false c.in_err-body.ensures)

pub read_front-requires : goal.read_front-requires
read_front-requires c = omega (arith, head_some c.in_ok-body.ensures, c.if-text-gt268435456.false)

pub returns-in_err-w : goal.returns-in_err-w
returns-in_err-w c =
    let p = err_from_is_err_and c.from_residual-in_err-w.result c.from_residual-in_err-w.ensures.1 in
    rw (p.1, p.2) (front_fails _ c.if-text-gt268435456.false c.in_ok-body.ensures c.in_err-w.ensures)

pub read_body-requires : goal.read_body-requires
read_body-requires c = omega (
  arith,
  head_some c.in_ok-body.ensures,
  front_some c.in_ok-w.ensures.2,
  c.in_ok-w.ensures.1,
  c.if-text-gt268435456.false,
)

pub returns-in_err-events : goal.returns-in_err-events
returns-in_err-events c =
    let p = err_from_is_err_and c.from_residual-in_err-events.result c.from_residual-in_err-events.ensures.1 in
    let front = c.in_ok-w.ensures in
    rw (p.1, p.2) (body_fails _ c.if-text-gt268435456.false c.in_ok-body.ensures front.2 front.1 _
    c.most_processes.ensures c.in_err-events.ensures)

pub returns-then-body-last-gt16777216 : goal.returns-then-body-last-gt16777216
returns-then-body-last-gt16777216 c =
    let body = rw c.most_processes.ensures at c.in_ok-events.ensures in
    rw c.refused-then-body-last-gt16777216.ensures (
      refl,
      inr (long_inside c.in_ok-body.ensures c.in_ok-w.ensures.2 body c.if-body-last-gt16777216.true),
    )

pub returns : goal.returns
returns c =
    let body = rw c.most_processes.ensures at c.in_ok-events.ensures in
    spells_trace _ c.if-text-gt268435456.false c.in_ok-body.ensures c.in_ok-w.ensures.2 body
    c.if-body-last-gt16777216.false refl
