use Rattle.trace_text.proofs.ThreadEvents.{read_made, read_out}
use Rattle.trace_text.proofs.made.made_read.Goals as goal

pub returns-then-n : goal.returns-then-n
returns-then-n c = λ p most x one counts holds.
    rw c.request.ensures (read_made p _ most c.args.id x c.args.n.now (rw c.in_ok-by.was at one) counts holds
    c.if-n.true)

pub returns-else-n : goal.returns-else-n
returns-else-n c = λ p most x one counts holds. read_out p most c.args.id x c.args.n.now counts holds c.if-n.false
