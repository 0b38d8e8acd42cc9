use Rattle.trace_text.proofs.LineHeads.{at_client, at_thread, at_request, at_return, at_completion, at_read, no_row}
use Rattle.trace_text.proofs.event_line.line_at.Goals as goal

pub returns-in-Some : goal.returns-in-Some
returns-in-Some c = at_client _ _ c.in-Some.row _ _ _ c.in-Some.ensures (c.client.ensures c.args.adds)

pub returns-in-Some-after : goal.returns-in-Some-after
returns-in-Some-after c = at_return _ _ _ _ _ c.in-Some-after.ensures (c.returned.ensures c.args.adds)

pub returns-in-Some-thread_row : goal.returns-in-Some-thread_row
returns-in-Some-thread_row c = at_thread _ _ c.in-Some-thread_row.row _ _ _ c.in-Some-thread_row.ensures
    (c.thread.ensures c.args.most c.args.adds)

pub returns-in-Some-request_row : goal.returns-in-Some-request_row
returns-in-Some-request_row c = at_request _ _ c.in-Some-request_row.row _ _ _ c.in-Some-request_row.ensures
    (c.asked.ensures c.args.most)

pub returns-in-Some-after-2 : goal.returns-in-Some-after-2
returns-in-Some-after-2 c = at_completion _ _ _ _ _ c.in-Some-after-2.ensures
    (c.completed.ensures c.args.most c.args.adds)

pub returns-in_ok-after : goal.returns-in_ok-after
returns-in_ok-after c = at_read _ _ _ _ _ c.in_default-request_row.ensures c.in_ok-after.ensures c.read.ensures

pub returns-in_err-after : goal.returns-in_err-after
returns-in_err-after c = rw c.from_residual.ensures
    (no_row c.in_default.ensures c.in_default-thread_row.ensures c.in_default-request_row.ensures
    c.in_default-after.ensures c.in_default-after-2.ensures c.in_err-after.ensures c.args.most c.args.adds)
