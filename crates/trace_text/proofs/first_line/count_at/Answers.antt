use Rattle.trace_text.proofs.FirstLaws.{no_count_word, no_count, no_count_end, count_read}
use Rattle.trace_text.proofs.first_line.count_at.Goals as goal

pub returns-in_err-after : goal.returns-in_err-after
returns-in_err-after c = rw c.from_residual.ensures (no_count_word c.in_err-after.ensures)

pub returns-in_err-count : goal.returns-in_err-count
returns-in_err-count c = rw c.from_residual-in_err-count.ensures (no_count c.in_ok-after.ensures c.in_err-count.ensures)

pub returns-in_err-rest : goal.returns-in_err-rest
returns-in_err-rest c = rw c.from_residual-in_err-rest.ensures
    (no_count_end c.in_ok-after.ensures c.in_ok-count.ensures.1 c.in_err-rest.ensures)

pub returns : goal.returns
returns c = (
  c.in_ok-count.ensures.0,
  count_read c.in_ok-after.ensures c.in_ok-count.ensures.1 c.in_ok-rest.ensures,
  c.in_ok-count.ensures.2,
)
