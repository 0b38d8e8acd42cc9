-- A page that has its bit was in the set: its bit is cleared, and there is one page less.
use Rattle.std.proofs.Common.{◌≡◌, true, false, set, sym, ap, ◌∙◌}
use Rattle.std.specs.Prelude.{slice_get, Some}
use Rattle.split_core.specs.PageSets.{has_page, pages_of}
use Rattle.split_core.proofs.PageBits.{count-some, pages-kept, read-page, without-pages, without-is_set}
use Rattle.split_core.proofs.note.page_set.PageSet.remove.Goals as goal

pub overflow_sub-self : goal.overflow_sub-self
overflow_sub-self c =
    let f = c.self.inside in
    let here : has_page f.words c.args.page ≡ true = sym c.has_page-was_in.ensures ∙ c.if-was_in.true in
    count-some f.words f.count c.args.page c.self.invariant c.requires here

pub invariant_of-self : goal.invariant_of-self
invariant_of-self c =
    let f = c.self.inside in
    let here : has_page f.words c.args.page ≡ true = sym c.has_page-was_in.ensures ∙ c.if-was_in.true in
    rw c.clear_page.ensures (without-is_set f.words f.count c.args.page c.self.invariant c.requires here)

pub returns-then-was_in-clause-result : goal.returns-then-was_in-clause-result
returns-then-was_in-clause-result c =
    ap (λ pages. slice_get pages c.args.page) (sym c.self.view_is)
    ∙ read-page c.self.inside.words c.args.page c.requires ∙ ap (λ b. Some b) (sym c.has_page-was_in.ensures)

pub returns-then-was_in-clause-set : goal.returns-then-was_in-clause-set
returns-then-was_in-clause-set c =
    let f = c.self.inside in
    ap pages_of c.clear_page.ensures ∙ without-pages f.words f.count c.args.page c.self.invariant c.requires
    ∙ ap (λ pages. set pages c.args.page false) c.self.view_is

pub returns-else-was_in-clause-result : goal.returns-else-was_in-clause-result
returns-else-was_in-clause-result c =
    ap (λ pages. slice_get pages c.args.page) (sym c.self.view_is)
    ∙ read-page c.self.inside.words c.args.page c.requires ∙ ap (λ b. Some b) (sym c.has_page-was_in.ensures)

pub returns-else-was_in-clause-set : goal.returns-else-was_in-clause-set
returns-else-was_in-clause-set c =
    let f = c.self.inside in
    let none : has_page f.words c.args.page ≡ false = sym c.has_page-was_in.ensures ∙ c.if-was_in.false in
    sym c.self.view_is ∙ sym (pages-kept f.words c.args.page false c.requires none)
    ∙ ap (λ pages. set pages c.args.page false) c.self.view_is
