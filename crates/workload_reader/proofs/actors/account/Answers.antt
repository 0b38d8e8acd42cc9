use Rattle.std.proofs.Common.{refl}
use Rattle.workload_reader.proofs.Alike.{after_field}
use Rattle.workload_reader.proofs.Amounts.{after_amount}
use Rattle.workload_reader.proofs.actors.account.Goals as goal

pub returns-in_err-cap : goal.returns-in_err-cap
returns-in_err-cap c = rw c.from_residual-in_err-cap.ensures (λ a rest formed e.
    c.in_err-cap.ensures a.cap _ (record { text_is = after_field a.rate _ c.in_ok-rate.ensures.1 e refl; ends = refl }))

pub returns-in_err-start : goal.returns-in_err-start
returns-in_err-start c = rw c.from_residual-in_err-start.ensures (λ a rest formed e.
    let e1 = after_field a.rate _ c.in_ok-rate.ensures.1 e refl in
    let e2 = after_field a.cap _ c.in_ok-cap.ensures.1 e1 refl in
    c.in_err-start.ensures a.start _ (record { text_is = e2; ends = refl }))

pub returns-in_err-rest : goal.returns-in_err-rest
returns-in_err-rest c = rw c.from_residual-in_err-rest.ensures (λ a rest formed e.
    let e1 = after_field a.rate _ c.in_ok-rate.ensures.1 e refl in
    let e2 = after_field a.cap _ c.in_ok-cap.ensures.1 e1 refl in
    c.in_err-rest.ensures rest (after_amount a.start _ c.in_ok-start.ensures.1 e2 refl))

pub returns : goal.returns
returns c = (
  record { rate = c.in_ok-rate.ensures.0; cap = c.in_ok-cap.ensures.0; start = c.in_ok-start.ensures.0 },
  tt,
  cc (
    c.in_ok-rate.ensures.1.text_is,
    c.in_ok-cap.ensures.1.text_is,
    c.in_ok-start.ensures.1.text_is,
    c.in_ok-rest.ensures,
  ),
  c.account_of.ensures _ c.in_ok-rate.ensures.2 c.in_ok-cap.ensures.2 c.in_ok-start.ensures.2,
)
