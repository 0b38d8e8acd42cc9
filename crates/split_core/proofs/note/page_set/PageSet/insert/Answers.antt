-- A page that has its bit is in the set; else its bit is set, and there is one page more.
use Rattle.std.proofs.Common.{◌≡◌, true, false, set, sym, ap, ◌∙◌, arith}
use Rattle.split_core.specs.PageSets.{has_page, pages_of}
use Rattle.split_core.proofs.PageBits.{count-most, pages-kept, with-pages, with-is_set}
use Rattle.split_core.proofs.note.page_set.PageSet.insert.Goals as goal

pub overflow_add-self : goal.overflow_add-self
overflow_add-self c = omega (arith, count-most c.self.inside.words c.self.inside.count c.self.invariant)

pub invariant_of-self : goal.invariant_of-self
invariant_of-self c =
    let f = c.self.inside in
    let none : has_page f.words c.args.page ≡ false = sym c.has_page.ensures ∙ c.if-not-has_page.true in
    rw c.set_page.ensures (with-is_set f.words f.count c.args.page c.self.invariant c.requires none)

pub returns-then-not-has_page : goal.returns-then-not-has_page
returns-then-not-has_page c =
    let f = c.self.inside in
    ap pages_of c.set_page.ensures ∙ with-pages f.words f.count c.args.page c.self.invariant c.requires
    ∙ ap (λ pages. set pages c.args.page true) c.self.view_is

pub returns-else-not-has_page : goal.returns-else-not-has_page
returns-else-not-has_page c =
    let f = c.self.inside in
    let here : has_page f.words c.args.page ≡ true = sym c.has_page.ensures ∙ c.if-not-has_page.false in
    sym c.self.view_is ∙ sym (pages-kept f.words c.args.page true c.requires here)
    ∙ ap (λ pages. set pages c.args.page true) c.self.view_is
