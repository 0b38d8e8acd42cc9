use Rattle.std.proofs.Common.{sym, ◌∙◌}
use Rattle.trace_text.proofs.RequestLaws.{asked_unread, asked_refused, asked_read}
use Rattle.trace_text.proofs.event_line.asked.Goals as goal

pub returns-in_err-n : goal.returns-in_err-n
returns-in_err-n c = rw c.from_residual.ensures (λ most.
    asked_unread c.args.row _ c.args.adds (rw c.count.ensures.value at c.in_err-n.ensures))

pub returns-then-not-allows : goal.returns-then-not-allows
returns-then-not-allows c = λ most.
    let found = rw c.count.ensures.value at c.in_ok-n.ensures in
    asked_refused c.args.row _ _ c.args.adds found.0 _ found.1 found.2 found.3 (sym c.allows.ensures
    ∙ c.if-not-allows.true)

pub returns : goal.returns
returns c = λ most.
    let found = rw c.count.ensures.value at c.in_ok-n.ensures in
    asked_read c.args.row _ _ most c.args.adds found.0 _ _ found.1 found.2 found.3 (sym c.allows.ensures
    ∙ c.if-not-allows.false) (c.made.ensures most found.0 found.1 found.3)
