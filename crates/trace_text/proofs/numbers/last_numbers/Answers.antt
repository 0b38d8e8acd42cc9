use Rattle.trace_text.proofs.NumberLaws.{none_small, none_wide, none_end, all_numbers}
use Rattle.trace_text.proofs.numbers.last_numbers.Goals as goal

pub returns-in_err-small : goal.returns-in_err-small
returns-in_err-small c = rw c.from_residual.ensures (none_small c.in_err-small.ensures c.args.has_wide)

pub returns-in_err-numbers : goal.returns-in_err-numbers
returns-in_err-numbers c = rw c.from_residual-in_err-numbers.ensures
    (none_wide c.in_ok-small.ensures c.args.has_wide c.in_err-numbers.ensures)

pub returns-in_err-rest : goal.returns-in_err-rest
returns-in_err-rest c = rw c.from_residual-in_err-rest.ensures
    (none_end c.in_ok-small.ensures c.in_ok-numbers.ensures c.in_err-rest.ensures)

pub returns : goal.returns
returns c = all_numbers c.in_ok-small.ensures c.in_ok-numbers.ensures _ c.in_ok-rest.ensures
