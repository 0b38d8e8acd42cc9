use Rattle.std.proofs.Common.{◌-◌, length}
use Rattle.split_types.specs.Workloads.{bound}
use Rattle.split_core.proofs.TurnNotes.{Drains}
use Rattle.split_core.proofs.machine.Core.drain.Given as goal

abbrev pub invariant-turns : goal.invariant-turns
invariant-turns g l = Drains l.fn.self l.self

abbrev pub decreases-turns : goal.decreases-turns
decreases-turns g l = bound l.self.workload - length l.self.history
