use Rattle.std.proofs.Common.{◌≡◌, ℕ, ◌<◌, true}
use Rattle.writeback.specs.ServedRun.{goes_on}
use Rattle.writeback.proofs.run.run_length.Given as goal

abbrev pub invariant-loop-k : goal.invariant-loop-k
invariant-loop-k g l = (j : ℕ) → j < l.k → goes_on l.c l.fs l.start.serial l.start.page j ≡ true
