use Rattle.std.proofs.Common.{arith}
use Rattle.trace_text.proofs.FirstLaws.{first_read, first_stops}
use Rattle.trace_text.proofs.first_line.first_line.Goals as goal

pub returns-in-Some : goal.returns-in-Some
returns-in-Some c = first_read 1 (omega arith, omega arith) c.in-Some.ensures

pub returns-in-Some-after : goal.returns-in-Some-after
returns-in-Some-after c = first_read 2 (omega arith, omega arith) c.in-Some-after.ensures

pub returns-in_default-after : goal.returns-in_default-after
returns-in_default-after c = first_stops _ c.formless.ensures c.in_default.ensures c.in_default-after.ensures
