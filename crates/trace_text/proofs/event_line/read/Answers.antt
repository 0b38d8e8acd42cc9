use Rattle.trace_text.proofs.RequestLaws.{read_unread, read_unnamed, read_unfinished, read_refused, read_read}
use Rattle.trace_text.proofs.event_line.read.Goals as goal

pub returns-in_err-by : goal.returns-in_err-by
returns-in_err-by c = rw c.from_residual.ensures (read_unread _ c.args.adds c.in_err-by.ensures)

pub returns-in_err-after : goal.returns-in_err-after
returns-in_err-after c = rw c.from_residual-in_err-after.ensures
    (read_unnamed _ _ _ c.args.adds c.in_ok-by.ensures.1 c.in_err-after.ensures)

pub returns-in_err-n : goal.returns-in_err-n
returns-in_err-n c = rw c.from_residual-in_err-n.ensures
    (read_unfinished _ _ _ _ c.args.adds c.in_ok-by.ensures.1 c.in_ok-after.ensures c.in_err-n.ensures)

pub returns-then-n-ne1 : goal.returns-then-n-ne1
returns-then-n-ne1 c =
    let found = c.in_ok-n.ensures in
    read_refused _ _ _ _ _ c.args.adds found.0 _ c.in_ok-by.ensures.1 c.in_ok-after.ensures found.1 found.2 found.3
    c.if-n-ne1.true

pub returns : goal.returns
returns c =
    let by = c.in_ok-by.ensures in
    let found = c.in_ok-n.ensures in
    read_read _ _ _ _ by.0 c.args.most c.args.adds found.0 _ _ by.1 c.in_ok-after.ensures found.1 found.2 found.3
    c.if-n-ne1.false
    (c.made_read.ensures by.0 c.args.most found.0 by.2 found.1 found.3)
