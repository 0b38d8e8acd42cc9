use Rattle.std.proofs.Common.{◌≡◌, ℕ, ◌+◌, ◌<◌, ◌≤◌, length, get_or, cond, None, []}
use Rattle.std.specs.Option.{is_some}
use Rattle.split_types.specs.LiveFiles.{metadata_block}
use Rattle.split_types.specs.Parents.{buffer_at}
use Rattle.journal_core.proofs.images.take_images.Given as goal

abbrev pub invariant-loop-place : goal.invariant-loop-place
invariant-loop-place g l = record {
  len : length l.images.items ≡ length l.initial.images.items;
  taken : (k : ℕ) → k < l.place → get_or l.images.items k []
      ≡ cond (is_some (get_or l.marks k None)) (metadata_block l.fs.first l.fs.slots (buffer_at (1 + k)))
      (get_or l.initial.images.items k []);
  rest : (k : ℕ) → l.place ≤ k → get_or l.images.items k [] ≡ get_or l.initial.images.items k [];
}
