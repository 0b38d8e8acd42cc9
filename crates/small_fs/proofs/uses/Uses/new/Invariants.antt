use Rattle.std.proofs.Common.{◌≡◌, ℕ, length, get_or, false, nat_lt}
use Rattle.small_fs.proofs.uses.Uses.new.Given as goal

abbrev pub invariant-loop-block : goal.invariant-loop-block
invariant-loop-block l = record {
  len : length l.bits ≡ 32768;
  before : (i : ℕ) → get_or l.bits i false ≡ nat_lt i l.block;
}
