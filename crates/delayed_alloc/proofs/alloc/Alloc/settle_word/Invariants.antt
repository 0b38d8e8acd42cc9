use Rattle.delayed_alloc.proofs.SettleLaws.{IsPartWay}
use Rattle.delayed_alloc.proofs.alloc.Alloc.settle_word.Given as goal

-- the blocks before are settled, and the rest has a bit for each of the others that waits
abbrev pub invariant-loop-rest : goal.invariant-loop-rest
invariant-loop-rest l = IsPartWay l.t l.initial.self l.initial.marks.bits l.at l.self l.marks.bits l.block l.rest

abbrev pub decreases-loop-rest : goal.decreases-loop-rest
decreases-loop-rest l = l.rest
