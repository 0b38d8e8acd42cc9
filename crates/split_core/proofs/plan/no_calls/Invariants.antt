-- So many processes.
use Rattle.std.proofs.Common.{◌≡◌, replicate, []}
use Rattle.split_core.proofs.plan.no_calls.Given as goal

abbrev pub invariant-loop-i : goal.invariant-loop-i
invariant-loop-i l = l.calls.items ≡ replicate l._i []
