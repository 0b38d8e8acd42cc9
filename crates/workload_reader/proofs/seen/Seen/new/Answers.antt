use Rattle.workload_reader.proofs.StandLaws.{begun}
use Rattle.workload_reader.proofs.seen.Seen.new.Goals as goal

pub invariant_of-result : goal.invariant_of-result
invariant_of-result c = record { stands = rw c.nothing.ensures (begun _ c.in_ok-new.ensures) }
