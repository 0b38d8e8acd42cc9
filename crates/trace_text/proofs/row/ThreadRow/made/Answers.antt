use Rattle.trace_text.proofs.ThreadEvents.{thread_out, thread_made}
use Rattle.trace_text.proofs.row.ThreadRow.made.Goals as goal

pub returns-then-n : goal.returns-then-n
returns-then-n c = λ most x counts holds. rw c.event.ensures
    (thread_made c.args.self most x c.args.n.now counts holds c.if-n.true)

pub returns-else-n : goal.returns-else-n
returns-else-n c = λ most x counts holds. thread_out c.args.self most x c.args.n.now counts holds c.if-n.false
