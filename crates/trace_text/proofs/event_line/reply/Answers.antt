use Rattle.std.proofs.Common.{}
use Rattle.trace_text.specs.Rows.{reply_of}
use Rattle.trace_text.proofs.ReturnLaws.{reply_none, reply_unread, reply_text}
use Rattle.trace_text.proofs.event_line.reply.Goals as goal

pub returns-in_err-row : goal.returns-in_err-row
returns-in_err-row c = rw c.from_residual.ensures (λ r rest any. reply_none _ c.in_err-row.ensures r rest)

pub returns-in_err-n : goal.returns-in_err-n
returns-in_err-n c = rw c.from_residual-in_err-n.ensures (λ r rest any.
    reply_unread c.in_ok-row.row _ _ c.in_ok-row.ensures
    (rw (c.count.ensures.value, c.is_wide.ensures) at c.in_err-n.ensures) r rest)

pub returns : goal.returns
returns c =
    let found = rw (c.count.ensures.value, c.is_wide.ensures) at c.in_ok-n.ensures in (
      reply_of c.in_ok-row.row found.0.0 found.0.1,
      tt,
      reply_text c.in_ok-row.row _ _ _ found.0 c.in_ok-row.ensures found.1 found.2,
      c.made.ensures found.0 found.1 found.3,
    )
