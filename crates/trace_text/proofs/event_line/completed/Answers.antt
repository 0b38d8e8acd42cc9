use Rattle.trace_text.proofs.ReturnLaws.{done_unread, done_unnamed, done_unfinished, done_read}
use Rattle.trace_text.proofs.event_line.completed.Goals as goal

pub returns-in_err-k : goal.returns-in_err-k
returns-in_err-k c = rw c.from_residual.ensures (λ most adds. done_unread _ adds c.in_err-k.ensures)

pub returns-in_err-id : goal.returns-in_err-id
returns-in_err-id c = rw c.from_residual-in_err-id.ensures (λ most adds.
    done_unnamed _ _ _ adds c.in_ok-k.ensures.1 c.in_err-id.ensures)

pub returns-in_err-ok : goal.returns-in_err-ok
returns-in_err-ok c = rw c.from_residual-in_err-ok.ensures (λ most adds.
    done_unfinished _ _ _ _ _ adds c.in_ok-k.ensures.1 c.in_ok-id.ensures.1 (λ ok rest. c.in_err-ok.ensures ok rest tt))

pub returns : goal.returns
returns c = λ most adds.
    let k = c.in_ok-k.ensures in
    let id = c.in_ok-id.ensures in
    let ok = c.in_ok-ok.ensures in
    done_read _ _ _ _ k.0 id.0 most adds ok.0 _ k.1 id.1 ok.2 (rw ok.3 at (c.done_of.ensures k.0 id.0 most k.2 id.2))
