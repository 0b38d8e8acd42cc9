use Rattle.std.proofs.Common.{◌≡◌, ℕ, ◌+◌, vec_len}
use Rattle.std.specs.Prelude.{nat_le, nat_lt, ◌&&◌}
use Rattle.delayed_alloc.specs.Bits.{is_set}
use Rattle.delayed_alloc.proofs.alloc.Alloc.new.Given as goal

abbrev pub invariant-loop-block : goal.invariant-loop-block
invariant-loop-block l = record {
  bits : (k : ℕ) → is_set l.free.words.items k ≡ (nat_le (526 + l.used) k && nat_lt k l.block);
  len : vec_len l.free.words ≡ vec_len l.initial.free.words;
}
