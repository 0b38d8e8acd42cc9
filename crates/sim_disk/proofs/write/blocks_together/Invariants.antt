use Rattle.std.proofs.Common.{◌≡◌, take, sum_by}
use Rattle.sim_disk.specs.Medium.{count_of}
use Rattle.sim_disk.proofs.write.blocks_together.Given as goal

-- the blocks of the writes so far
abbrev pub invariant-loop-w : goal.invariant-loop-w
invariant-loop-w l = l.blocks ≡ sum_by count_of (take l.w-index l.writes)
