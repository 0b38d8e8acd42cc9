use Rattle.std.proofs.Common.{◌≡◌, [], All, vec_len, vec_capacity}
use Rattle.sim_disk.proofs.shared.Shared.new.Given as goal

-- no block is made so far
abbrev pub invariant-loop : goal.invariant-loop
invariant-loop l = record {
  len : vec_len l.blocks ≡ l.counter;
  capacity : vec_capacity l.blocks ≡ 256;
  none : All (λ v. v.items ≡ []) l.blocks.items;
}
