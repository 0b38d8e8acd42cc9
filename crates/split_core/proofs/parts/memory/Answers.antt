-- Nothing is held before any event.
use Rattle.std.proofs.Common.{arith}
use Rattle.split_core.proofs.parts.memory.Goals as goal

pub returns-clause-none : goal.returns-clause-none
returns-clause-none c = λ n. omega (arith, c.in_ok-pages.ensures.none n, c.in_ok-journaling.ensures.none n)
