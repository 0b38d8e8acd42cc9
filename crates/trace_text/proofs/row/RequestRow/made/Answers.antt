use Rattle.trace_text.proofs.ThreadEvents.{request_made}
use Rattle.trace_text.proofs.row.RequestRow.made.Goals as goal

pub returns-then-n : goal.returns-then-n
returns-then-n c = λ most x counts holds.
    rw (c.request.ensures, c.kind.ensures, c.asker.ensures)
    (request_made c.args.self most c.args.id x c.args.n.now counts holds c.if-n.true)
