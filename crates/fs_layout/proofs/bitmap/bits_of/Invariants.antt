use Rattle.std.proofs.Common.{◌≡◌, vec_len}
use Rattle.std.specs.Prelude.{vec_capacity}
use Rattle.fs_layout.specs.BitsOf.{bits_of}
use Rattle.fs_layout.proofs.bitmap.bits_of.Given as goal

abbrev pub invariant-loop-i : goal.invariant-loop-i
invariant-loop-i l = record {
  bits : l.bits.items ≡ bits_of l.b l.i;
  len : vec_len l.bits ≡ l.i;
  capacity : vec_capacity l.bits ≡ l.count;
}
