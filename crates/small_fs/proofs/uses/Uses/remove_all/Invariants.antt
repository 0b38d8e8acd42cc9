use Rattle.std.proofs.Common.{◌≡◌, ℕ, ◌+◌, take}
use Rattle.std.specs.Prelude.{◌==◌, slice_index, count_by}
use Rattle.small_fs.proofs.uses.Uses.remove_all.Given as goal

abbrev pub invariant-loop-block : goal.invariant-loop-block
invariant-loop-block l = record {
  first : l.self.first ≡ l.initial.self.first;
  pages : (b : ℕ) → slice_index l.self.pages b + count_by (λ block. block == b) (take l.block-index l.blocks)
      ≡ slice_index l.initial.self.pages b;
}
