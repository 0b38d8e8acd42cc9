use Rattle.std.proofs.Common.{refl}
use Rattle.workload_reader.proofs.Alike.{after_field}
use Rattle.workload_reader.proofs.actors.process.Goals as goal

pub returns-in_err-weight : goal.returns-in_err-weight
returns-in_err-weight c = rw c.from_residual-in_err-weight.ensures (λ p rest formed e.
    c.in_err-weight.ensures p.weight _ (record {
      text_is = after_field p.account _ c.in_ok-account.ensures.1 e refl;
      ends = refl;
    }))

pub returns-in_err-deadline : goal.returns-in_err-deadline
returns-in_err-deadline c = rw c.from_residual-in_err-deadline.ensures (λ p rest formed e.
    let e1 = after_field p.account _ c.in_ok-account.ensures.1 e refl in
    let e2 = after_field p.weight _ c.in_ok-weight.ensures.1 e1 refl in
    c.in_err-deadline.ensures p.deadline _ (record { text_is = e2; ends = refl }))

pub returns-in_err-rest : goal.returns-in_err-rest
returns-in_err-rest c = rw c.from_residual-in_err-rest.ensures (λ p rest formed e.
    let e1 = after_field p.account _ c.in_ok-account.ensures.1 e refl in
    let e2 = after_field p.weight _ c.in_ok-weight.ensures.1 e1 refl in
    c.in_err-rest.ensures rest (after_field p.deadline _ c.in_ok-deadline.ensures.1 e2 refl))

pub returns : goal.returns
returns c = (
  record {
    account = c.in_ok-account.ensures.0;
    weight = c.in_ok-weight.ensures.0;
    deadline = c.in_ok-deadline.ensures.0;
  },
  tt,
  cc (
    c.in_ok-account.ensures.1.text_is,
    c.in_ok-weight.ensures.1.text_is,
    c.in_ok-deadline.ensures.1.text_is,
    c.in_ok-rest.ensures,
  ),
  c.process_of.ensures _ c.args.accounts c.in_ok-account.ensures.2 c.in_ok-weight.ensures.2 c.in_ok-deadline.ensures.2,
)
