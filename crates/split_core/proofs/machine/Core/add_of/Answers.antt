-- The number of requests so far fits.
use Rattle.std.proofs.Common.{arith}
use Rattle.split_core.proofs.NextReads.{adds_small}
use Rattle.split_core.proofs.machine.Core.add_of.Goals as goal

pub overflow_cast-result : goal.overflow_cast-result
overflow_cast-result c =
    let i = c.self.inside in
    omega (
      arith,
      c.len.ensures,
      c.self.invariant.parts.book.added,
      adds_small i.workload i.history.events c.self.invariant.accepted c.self.invariant.legal,
    )
