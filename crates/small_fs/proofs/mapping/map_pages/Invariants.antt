use Rattle.std.proofs.Common.{◌≡◌, ℕ, ◌+◌}
use Rattle.std.specs.Prelude.{slice_index}
use Rattle.split_types.specs.LiveFiles.{with_run}
use Rattle.small_fs.specs.Uses.{uses_in}
use Rattle.small_fs.proofs.mapping.map_pages.Given as goal

abbrev pub invariant-loop-i : goal.invariant-loop-i
invariant-loop-i l = record {
  file : l.file ≡ record l.initial.file { blocks = with_run l.page l.i l.first l.initial.file.blocks };
  first : l.uses.first ≡ l.initial.uses.first;
  counted : (b : ℕ) → slice_index l.uses.pages b + uses_in b l.initial.file.blocks
      ≡ slice_index l.initial.uses.pages b + uses_in b l.file.blocks;
}
