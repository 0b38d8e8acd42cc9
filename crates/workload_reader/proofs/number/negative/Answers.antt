use Rattle.std.proofs.Common.{◌+◌, ◌-◌, ◌≡◌, sym, arith, ◌∙◌, refl, subst}
use Rattle.std.proofs.lemmas.Bool.{eqb-true}
use Rattle.workload_reader.specs.Fields.{NumberAt, narrowed}
use Rattle.workload_reader.proofs.Amounts.{zero_is_none, not_zero}
use Rattle.workload_reader.proofs.number.negative.Goals as goal

pub returns-then-is_zero : goal.returns-then-is_zero
returns-then-is_zero c = λ n rest at.
    let found = c.in_ok-value.ensures in
    zero_is_none n found.1 refl (eqb-true found.0 0 (sym (c.is_zero.ensures found.0 found.2) ∙ c.if-is_zero.true)) at

pub returns-else-is_zero : goal.returns-else-is_zero
returns-else-is_zero c =
    let found = c.in_ok-value.ensures in
    let some = not_zero found.0 (sym (c.is_zero.ensures found.0 found.2) ∙ c.if-is_zero.false) in
    let one : found.0 ≡ (found.0 - 1) + 1 = omega arith in (
      found.0 - 1,
      subst (λ n. NumberAt c.args.text.now n c.in_ok-value.rest.now) one found.1,
      c.negated.ensures (found.0 - 1) (subst (λ n. c.in_ok-value.value ≡ narrowed n) one found.2),
    )
