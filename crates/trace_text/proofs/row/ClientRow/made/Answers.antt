use Rattle.trace_text.proofs.ClientEvents.{client_made}
use Rattle.trace_text.proofs.row.ClientRow.made.Goals as goal

pub returns-then-n : goal.returns-then-n
returns-then-n c = λ p most x one counts holds.
    rw c.event.ensures (client_made c.args.self p _ most x c.args.n.now (rw c.in_ok-by.was at one) counts holds
    c.if-n.true)
