use Rattle.trace_text.proofs.TailLaws.{thread_unread, thread_read}
use Rattle.trace_text.proofs.event_line.thread.Goals as goal

pub returns-in_err-n : goal.returns-in_err-n
returns-in_err-n c = rw c.from_residual.ensures (λ most adds.
    thread_unread c.args.row _ adds (rw (c.count.ensures.value, c.is_wide.ensures) at c.in_err-n.ensures))

pub returns : goal.returns
returns c = λ most adds.
    let found = rw (c.count.ensures.value, c.is_wide.ensures) at c.in_ok-n.ensures in
    thread_read c.args.row _ _ most adds found.0 _ found.1 found.2 (c.made.ensures most found.0 found.1 found.3)
