-- Nothing changed, and the processes so far have no next event.
use Rattle.std.proofs.Common.{◌≡◌}
use Rattle.split_types.specs.Legal.{first_next}
use Rattle.split_core.specs.Steps.{clients_from}
use Rattle.split_core.proofs.machine.Core.act_of_clients.Given as goal

abbrev pub invariant-loop-i : goal.invariant-loop-i
invariant-loop-i l = record {
  same : l.self ≡ l.fn.self;
  passed : first_next l.fn.self.workload l.fn.self.history (clients_from l.fn.self.workload l.behind)
      ≡ first_next l.fn.self.workload l.fn.self.history (clients_from l.fn.self.workload l.i);
}
