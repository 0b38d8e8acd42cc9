use Rattle.std.proofs.Common.{◌≢◌, ℕ, ◌<◌, slice_index_or}
use Rattle.outside.proofs.memory.is_listed.Given as goal

-- none so far is the call
abbrev pub invariant-loop-fail : goal.invariant-loop-fail
invariant-loop-fail l = (k : ℕ) → k < l.fail-index → slice_index_or l.fails k l.call ≢ l.call
