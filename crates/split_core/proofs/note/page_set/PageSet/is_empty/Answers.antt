-- The count says whether there are pages.
use Rattle.std.proofs.Common.{ap, ◌∙◌}
use Rattle.std.specs.Prelude.{not}
use Rattle.std.specs.List.{list_any}
use Rattle.split_core.proofs.PageBits.{is_empty}
use Rattle.split_core.proofs.note.page_set.PageSet.is_empty.Goals as goal

pub returns : goal.returns
returns c =
    is_empty c.self.inside.words c.self.inside.count c.self.invariant
    ∙ ap (λ pages. not (list_any (λ is_in. is_in) pages)) c.self.view_is
