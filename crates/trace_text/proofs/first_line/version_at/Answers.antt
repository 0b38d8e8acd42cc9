use Rattle.std.proofs.Common.{arith}
use Rattle.trace_text.proofs.FirstLaws.{version_read, no_version}
use Rattle.trace_text.proofs.first_line.version_at.Goals as goal

pub returns-in-Some : goal.returns-in-Some
returns-in-Some c = version_read 1 (omega arith, omega arith) c.in-Some.ensures

pub returns-in-Some-after : goal.returns-in-Some-after
returns-in-Some-after c = version_read 2 (omega arith, omega arith) c.in-Some-after.ensures

pub returns-in-Some-after-2 : goal.returns-in-Some-after-2
returns-in-Some-after-2 c = version_read 3 (omega arith, omega arith) c.in-Some-after-2.ensures

pub returns-in_default-after-2 : goal.returns-in_default-after-2
returns-in_default-after-2 c = no_version c.in_default.ensures c.in_default-after.ensures c.in_default-after-2.ensures
