use Rattle.std.proofs.Common.{refl, arith}
use Rattle.trace_text.specs.ReadsTrace.{at_count}
use Rattle.trace_text.proofs.TraceLaws.{body_read, count_some}
use Rattle.trace_text.proofs.reading.read_body.Goals as goal

pub returns-in-Err : goal.returns-in-Err
returns-in-Err c = rw c.refused.ensures (at_count refl c.in-Err.ensures)

pub returns-in-Ok : goal.returns-in-Ok
returns-in-Ok c = body_read c.args.line c.args.most c.in-Ok.ensures c.read_events.result c.read_events.ensures

pub read_events-requires : goal.read_events-requires
read_events-requires c = omega (arith, count_some c.in-Ok.ensures, c.requires)
