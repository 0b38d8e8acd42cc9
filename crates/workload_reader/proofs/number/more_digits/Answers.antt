use Rattle.std.proofs.Common.{sym, ◌∙◌, arith}
use Rattle.std.proofs.lemmas.List.{take_rest}
use Rattle.workload_reader.proofs.Digits.{begun, goes_on, stops_at, stops_at_end}
use Rattle.workload_reader.proofs.number.more_digits.Goals as goal

pub loop-i-init : goal.loop-i-init
loop-i-init c = begun _ _ c.requires (omega arith)

pub loop-i-preserved : goal.loop-i-preserved
loop-i-preserved c =
    goes_on _ _ _ _ _ c.loop-i.invariant (omega arith)
    (sym c.is_ascii_digit.ensures.value ∙ c.if-not-is_ascii_digit.false) c.with_digit-value.ensures

pub returns-then-not-is_ascii_digit : goal.returns-then-not-is_ascii_digit
returns-then-not-is_ascii_digit c =
    rw take_rest
    (stops_at _ _ _ _ c.loop-i.invariant (omega arith)
    (sym c.is_ascii_digit.ensures.value ∙ c.if-not-is_ascii_digit.true))

pub returns : goal.returns
returns c = rw take_rest (stops_at_end _ _ _ _ c.loop-i.invariant (omega arith))
