-- One part of the trace after another.
use Rattle.line_printer.proofs.Shared.{and_then, in_all}
use Rattle.trace_text.proofs.trace.put_trace.Goals as goal

pub returns : goal.returns
returns g c =
    let front = and_then c.put_number_line.ensures c.put_workload.ensures in
    in_all _ (and_then (and_then front c.put_number_line-2.ensures) c.put_events.ensures) (cc)
