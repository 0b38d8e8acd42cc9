use Rattle.std.proofs.Common.{ℕ, sym, ap, ◌∙◌, rules}
use Rattle.std.specs.Prelude.{not, ◌==◌, filter}
use Rattle.std.proofs.lemmas.Fn.{filter_same}
use Rattle.split_types.specs.LiveFiles.{LiveFile, blocks_of}
use Rattle.small_fs.proofs.PointerLaws.{blocks_kept, kept_below}
use Rattle.small_fs.proofs.file.File.into_blocks.Goals as goal

pub returns : goal.returns
returns c =
    let i = c.self.inside in
    filter_same _ (λ (n : ℕ). not (n == 0)) _ (λ x b f h. search rules) _ _ c.retain.ensures.filtered
    ∙ ap (filter (λ (n : ℕ). not (n == 0))) c.truncate.ensures.items
    ∙ kept_below i.pointers.items i.mapped c.self.invariant.unmapped
    ∙ sym (blocks_kept i.pointers.items) ∙ ap (λ (f : LiveFile). blocks_of f) c.self.view_is
