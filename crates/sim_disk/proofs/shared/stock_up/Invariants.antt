use Rattle.std.proofs.Common.{◌≤◌, vec_len}
use Rattle.sim_disk.proofs.shared.stock_up.Given as goal

-- one blank more each time
abbrev pub invariant-loop : goal.invariant-loop
invariant-loop l = record {
  more : vec_len l.fn.ready ≤ vec_len l.ready;
  there : l.counter ≤ vec_len l.ready;
}
