use Rattle.std.proofs.Common.{◌≡◌, ◌&&◌, refl, sym, arith, ◌∙◌, ap}
use Rattle.trace_text.proofs.NumberLaws.{smalls_begin, smalls_more, smalls_stop}
use Rattle.trace_text.proofs.numbers.smalls.Goals as goal
use Rattle.trace_text.proofs.numbers.smalls.Goals.{then-numbers, else-numbers}

pub loop-i-init : goal.loop-i-init
loop-i-init c = record { read = smalls_begin _ _ _ refl refl }

pub loop-i-preserved : goal.loop-i-preserved
loop-i-preserved c =
    let both : c.if-numbers.within ≡ (c.loop-i.numbers.within && c.in_ok-value.fits) = elim c.if-numbers.branch [
      | then-numbers w ↦ w.within-is ∙ ap (λ b. b && c.in_ok-value.fits) (sym w.if-numbers.true)
      | else-numbers w ↦ w.within-is ∙ w.if-numbers.false ∙ ap (λ b. b && c.in_ok-value.fits) (sym w.if-numbers.false)
    ] in
    let found = c.in_ok-value.ensures in
    record { read = smalls_more found.0 _ _ _ _ c.loop-i.invariant.read (omega arith) found.1 found.2 found.3 both }

pub returns-in_err-value : goal.returns-in_err-value
returns-in_err-value c = rw c.from_residual.ensures (λ ns rest number ends e.
    smalls_stop c.loop-i.invariant.read c.in_err-value.ensures ns rest (omega arith) ends e)
