use Rattle.std.proofs.Common.{◌≡◌, ℕ, ◌+◌, ◌<◌, ◌≤◌, true}
use Rattle.delayed_alloc.specs.Bits.{is_set}
use Rattle.delayed_alloc.proofs.block_set.BlockSet.run.Given as goal

abbrev pub invariant-loop-len : goal.invariant-loop-len
invariant-loop-len l = (b : ℕ) → l.first ≤ b → b < l.first + l.len → is_set l.self.words.items b ≡ true
