use Rattle.trace_text.proofs.TailLaws.{client_unread, client_unfinished, client_read}
use Rattle.trace_text.proofs.event_line.client.Goals as goal

pub returns-in_err-by : goal.returns-in_err-by
returns-in_err-by c = rw c.from_residual.ensures (λ adds. client_unread c.args.row _ adds c.in_err-by.ensures)

pub returns-in_err-n : goal.returns-in_err-n
returns-in_err-n c = rw c.from_residual-in_err-n.ensures (λ adds.
    client_unfinished c.args.row _ _ _ adds c.in_ok-by.ensures.1
    (rw (c.count.ensures.value, c.is_wide.ensures) at c.in_err-n.ensures))

pub returns : goal.returns
returns c = λ adds.
    let by = c.in_ok-by.ensures in
    let found = rw (c.count.ensures.value, c.is_wide.ensures) at c.in_ok-n.ensures in
    client_read c.args.row _ _ _ by.0 c.args.most adds found.0 _ by.1 found.1 found.2
    (c.made.ensures by.0 c.args.most found.0 by.2 found.1 found.3)
