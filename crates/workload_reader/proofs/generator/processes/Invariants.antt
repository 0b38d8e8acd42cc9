use Rattle.std.proofs.Common.{◌≡◌, ◌-◌, replicate}
use Rattle.workload_reader.specs.Generated.{process}
use Rattle.workload_reader.proofs.generator.processes.Given as goal

abbrev pub invariant-loop-made : goal.invariant-loop-made
invariant-loop-made l = l.processes ≡ replicate (l._made - 1) (process 1)
