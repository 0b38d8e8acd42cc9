use Rattle.std.proofs.Common.{◌≡◌, ◌∙◌, Some, None, is_some, get_or, ap, sym, arith}
use Rattle.std.proofs.lemmas.Grind.{common_steps}
use Rattle.page_cache.specs.Guide.{Guided}
use Rattle.page_cache.specs.Held.{mark_of}
use Rattle.page_cache.proofs.PageLaws.{keeps-changed, view-changed}
use Rattle.page_cache.proofs.cache.Cache.change.Goals as goal

pub invariant_of-self : goal.invariant_of-self
invariant_of-self g c =
    let i = c.self.inside in
    let here : get_or i.places.items c.args.at None ≡ Some c.unwrap-page.result.now = grind (arith, common_steps) in
    let mark = c.of-mark.ensures ∙ ap (λ dirty. mark_of dirty c.args.state) (c.is_some.ensures
    ∙ ap is_some (sym c.replace-old.ensures.after)) in
    rw c.mark.ensures
    (keeps-changed g.S.TagStore.number i.limit i.spare i.places.items i.guide i.pool c.args.at c.unwrap-page.result.now
    c.replace-old.new.dest
    c.args.state c.of-mark.result c.self.invariant here mark (rw (← c.self.view_is) at c.requires.loading))

pub returns-clause-rest : goal.returns-clause-rest
returns-clause-rest g c =
    let i = c.self.inside in
    let here : get_or i.places.items c.args.at None ≡ Some c.unwrap-page.result.now = grind (arith, common_steps) in
    rw (← c.self.view_is)
    (view-changed g.S.TagStore.number i.limit i.spare i.places.items i.guide i.pool c.args.at c.mark.new.self
    c.unwrap-page.result.now c.args.tag
    c.replace-old.new.dest c.args.state here c.replace-old.ensures.after
    (ap (λ (v : Guided). v.touches) c.mark.ensures))
