use Rattle.trace_text.proofs.LineHeads.{no_request}
use Rattle.trace_text.proofs.row.request_row.Goals as goal

pub returns-in_err-rest : goal.returns-in_err-rest
returns-in_err-rest c = rw c.from_residual.ensures (no_request c.in_default.ensures c.in_default-after.ensures
    c.in_default-after-2.ensures c.in_default-after-3.ensures c.in_err-rest.ensures)
