-- The calls so far.
use Rattle.std.proofs.Common.{◌≡◌, ℕ, ◌+◌, ◌<◌, length, [], take, slice_index_or}
use Rattle.split_core.proofs.PlanNotes.{calls_in}
use Rattle.split_core.proofs.plan.calls_by_process.Given as goal

abbrev pub invariant-loop-call : goal.invariant-loop-call
invariant-loop-call l = record {
  callers : length l.calls.items ≡ length l.w.procs;
  calls : (p : ℕ) → p < length l.w.procs → slice_index_or l.calls.items p []
      ≡ calls_in (take l.call-index l.w.calls) (p + 1);
}
