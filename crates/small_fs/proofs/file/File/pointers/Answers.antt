use Rattle.std.proofs.Common.{sym, ap, ◌∙◌, map}
use Rattle.split_types.specs.LiveFiles.{LiveFile, pointer}
use Rattle.small_fs.proofs.PointerLaws.{pointers_again}
use Rattle.small_fs.proofs.file.File.pointers.Goals as goal

pub returns-clause-blocks : goal.returns-clause-blocks
returns-clause-blocks c =
    c.deref.ensures.value ∙ sym (pointers_again c.self.inside.pointers.items)
    ∙ ap (λ (f : LiveFile). map pointer f.blocks) c.self.view_is
