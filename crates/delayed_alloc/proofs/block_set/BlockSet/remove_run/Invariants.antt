use Rattle.std.proofs.Common.{◌≡◌, ◌⊎◌, ℕ, ◌<◌, ◌≤◌, false, vec_len}
use Rattle.delayed_alloc.specs.Bits.{is_set}
use Rattle.delayed_alloc.proofs.block_set.BlockSet.remove_run.Given as goal

abbrev pub invariant-loop-block : goal.invariant-loop-block
invariant-loop-block l = record {
  run : (b : ℕ) → l.first ≤ b → b < l.block → is_set l.self.words.items b ≡ false;
  others : (b : ℕ) → (b < l.first) ⊎ (l.block ≤ b) → is_set l.self.words.items b ≡ is_set l.initial.self.words.items b;
  len : vec_len l.self.words ≡ vec_len l.initial.self.words;
}
