use Rattle.std.proofs.Common.{◌≡◌, ℕ, ◌/◌, ◌+◌, ◌<◌, ◌≤◌, get_or}
use Rattle.delayed_alloc.proofs.block_set.next_bit.Given as goal

-- the words behind that of the first number are 0 so far
abbrev pub invariant-loop-at : goal.invariant-loop-at
invariant-loop-at l = (k : ℕ) → l.from / 64 + 1 ≤ k → k < l.at → get_or l.words k 0 ≡ 0
