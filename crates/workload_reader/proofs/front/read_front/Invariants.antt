use Rattle.std.proofs.Common.{length}
use Rattle.workload_reader.proofs.FrontLaws.{Walks}
use Rattle.workload_reader.proofs.front.read_front.Given as goal

abbrev pub invariant-loop-seen : goal.invariant-loop-seen
invariant-loop-seen l = Walks l.text l.first l.seen.workload l.seen.stage l.rest l.line

abbrev pub decreases-loop-seen : goal.decreases-loop-seen
decreases-loop-seen l = length l.rest
