use Rattle.std.proofs.Common.{◌≡◌, ◌&&◌, sym, ◌∙◌, ap}
use Rattle.trace_text.proofs.NumberLaws.{none_widens, one_wide}
use Rattle.trace_text.proofs.numbers.widened.Goals as goal
use Rattle.trace_text.proofs.numbers.widened.Goals.{then-numbers, else-numbers}

pub returns-in_err-value : goal.returns-in_err-value
returns-in_err-value c = rw (c.from_residual.ensures, c.if-has_wide.true) (none_widens c.in_err-value.ensures)

pub returns-after-numbers : goal.returns-after-numbers
returns-after-numbers c =
    let both : c.if-numbers.within ≡ (c.args.numbers.within && c.in_ok-value.fits) = elim c.if-numbers.branch [
      | then-numbers w ↦ w.within-is ∙ ap (λ b. b && c.in_ok-value.fits) (sym w.if-numbers.true)
      | else-numbers w ↦ w.within-is ∙ w.if-numbers.false ∙ ap (λ b. b && c.in_ok-value.fits) (sym w.if-numbers.false)
    ] in
    let found = c.in_ok-value.ensures in
    rw c.if-has_wide.true (one_wide c.args.numbers found.0 _ _ _ found.1 found.2 found.3 both)
