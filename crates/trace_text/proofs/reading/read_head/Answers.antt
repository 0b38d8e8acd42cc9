use Rattle.std.proofs.Common.{refl}
use Rattle.trace_text.specs.ReadsTrace.{first_refused, version_refused}
use Rattle.trace_text.proofs.reading.read_head.Goals as goal

pub returns-in-Err : goal.returns-in-Err
returns-in-Err c = rw c.refused.ensures (first_refused refl c.in-Err.ensures)

pub returns-then-is_mispaired : goal.returns-then-is_mispaired
returns-then-is_mispaired c = rw c.refused-then-is_mispaired.ensures
    (version_refused c.in-Ok.version c.in-Ok.body.now refl refl c.in-Ok.ensures
    (rw c.if-is_mispaired.true at c.is_mispaired.ensures))

pub returns-else-is_mispaired : goal.returns-else-is_mispaired
returns-else-is_mispaired c = record {
  version = c.in-Ok.version;
  first = c.in-Ok.ensures;
  paired = rw c.if-is_mispaired.false at c.is_mispaired.ensures;
}
