use Rattle.std.proofs.Common.{◌≡◌, ◌∙◌, ◌+◌, ◌-◌, Some, None, get_or, ap, sym, arith}
use Rattle.std.proofs.lemmas.Grind.{common_steps}
use Rattle.page_cache.specs.Guide.{Guided}
use Rattle.page_cache.specs.Pool.{Pooled}
use Rattle.page_cache.proofs.PageLaws.{as-one, keeps-left, keeps-reserved, taken-there, view-left}
use Rattle.page_cache.proofs.cache.Cache.leave.Goals as goal

pub release-requires : goal.release-requires
release-requires g c =
    let i = c.self.inside in
    let here : get_or i.places.items c.args.at None ≡ Some c.unwrap-page.result = grind (arith, common_steps) in
    rw (c.from.ensures ∙ as-one c.unwrap-page.result.state.loading)
    (keeps-reserved g.S.TagStore.number i.limit i.spare i.places.items i.guide i.pool c.args.at c.unwrap-page.result
    c.self.invariant here)

pub invariant_of-self : goal.invariant_of-self
invariant_of-self g c =
    let i = c.self.inside in
    let here : get_or i.places.items c.args.at None ≡ Some c.unwrap-page.result =
    taken-there g.S.TagStore.number i.places.items c.args.at c.index_mut.result.now c.unwrap-page.result
    (rw (← c.self.view_is) at c.requires) c.index_mut.ensures.value
    (sym c.take.ensures.value ∙ c.unwrap-page.ensures) in
    rw c.take.ensures.after
    (keeps-left g.S.TagStore.number i.limit i.spare i.places.items i.guide i.pool c.args.at c.unwrap-page.result
    c.none.result c.mark.new.self
    c.leave.new.self c.release.new.self c.give_back.new.pool c.self.invariant here c.none.ensures c.mark.ensures
    c.leave.ensures
    (c.release.ensures
    ∙ ap (λ n. let v : Pooled = record i.pool { pages = i.pool.pages + n; reserved = i.pool.reserved - n } in v)
    (c.from.ensures ∙ as-one c.unwrap-page.result.state.loading)) c.give_back.ensures)

pub returns-clause-rest : goal.returns-clause-rest
returns-clause-rest g c =
    let i = c.self.inside in
    let touches = ap (λ (v : Guided). v.touches) c.leave.ensures ∙ ap (λ (v : Guided). v.touches) c.mark.ensures in
    rw (← c.self.view_is, c.take.ensures.after) (view-left g.S.TagStore.number i.limit i.spare i.places.items i.guide
    i.pool c.args.at c.leave.new.self touches)
