use Rattle.std.proofs.Common.{◌≡◌, ◌*◌, ◌^◌, ◌<◌, take, drop, vec_len, All}
use Rattle.std.specs.Prelude.{vec_capacity}
use Rattle.split_types.specs.DiskLayout.{numbers}
use Rattle.fs_layout.proofs.bytes.numbers_at.Given as goal

abbrev pub invariant-loop-i : goal.invariant-loop-i
invariant-loop-i l = record {
  spelled : take (4 * l.i) (drop l.at l.bytes) ≡ numbers l.values.items;
  len : vec_len l.values ≡ l.i;
  capacity : vec_capacity l.values ≡ l.count;
  fit : All (λ n. n < 2 ^ 32) l.values.items;
}
