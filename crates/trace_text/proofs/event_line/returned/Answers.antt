use Rattle.trace_text.proofs.ReturnLaws.{return_unread, return_unfinished, return_read}
use Rattle.trace_text.proofs.event_line.returned.Goals as goal

pub returns-in_err-by : goal.returns-in_err-by
returns-in_err-by c = rw c.from_residual.ensures (λ adds. return_unread _ adds c.in_err-by.ensures)

pub returns-in_err-reply : goal.returns-in_err-reply
returns-in_err-reply c = rw c.from_residual-in_err-reply.ensures (λ adds.
    return_unfinished _ _ _ adds c.in_ok-by.ensures.1 (λ r rest. c.in_err-reply.ensures r rest tt))

pub returns : goal.returns
returns c = λ adds.
    let by = c.in_ok-by.ensures in
    let found = c.in_ok-reply.ensures in
    return_read _ _ _ by.0 c.args.most adds found.0 _ by.1 found.2
    (c.return_of.ensures by.0 c.args.most found.0 by.2 found.3)
