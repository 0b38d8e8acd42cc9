use Rattle.sim_disk.proofs.FateLaws.{AreStruck}
use Rattle.sim_disk.proofs.disk.crash.crashed.Given as goal

abbrev pub invariant-loop-b : goal.invariant-loop-b
invariant-loop-b l = AreStruck l.before.blocks l.writes l.fates l.after.blocks l.next l.b
