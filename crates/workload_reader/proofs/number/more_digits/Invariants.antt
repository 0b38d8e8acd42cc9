use Rattle.workload_reader.proofs.Digits.{SoFar}
use Rattle.workload_reader.proofs.number.more_digits.Given as goal

abbrev pub invariant-loop-i : goal.invariant-loop-i
invariant-loop-i l = SoFar l.first l.text l.i l.value
