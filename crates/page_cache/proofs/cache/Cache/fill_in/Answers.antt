use Rattle.std.proofs.Common.{◌≡◌, ◌∙◌, Some, None, true, get_or, length, refl, ap, sym, arith}
use Rattle.std.proofs.lemmas.Grind.{common_steps}
use Rattle.std.proofs.lemmas.List.{length-replicate}
use Rattle.page_cache.specs.Guide.{Guided}
use Rattle.page_cache.specs.Fields.{all_seen}
use Rattle.page_cache.specs.Cached.{is_loading}
use Rattle.page_cache.proofs.PageLaws.{keeps-loaded, keeps-takes, loading-some, view-loaded, seen-at}
use Rattle.page_cache.proofs.KeptLaws.{kept-reserved}
use Rattle.page_cache.proofs.cache.Cache.fill_in.Goals as goal

pub release-requires : goal.release-requires
release-requires g c =
    let i = c.self.inside in
    let places = all_seen g.S.TagStore.number i.places.items in
    let loading : is_loading (get_or places c.args.at None) ≡ true = rw (← c.self.view_is) at c.requires in
    let below = kept-reserved i.limit i.spare places i.guide i.pool c.args.at (get_or places c.args.at None)
    c.self.invariant refl (loading-some _ loading) in
    rw loading at below

pub invariant_of-self : goal.invariant_of-self
invariant_of-self g c =
    let i = c.self.inside in
    let number = g.S.TagStore.number in
    let page = c.unwrap-page.result.now in
    let here : get_or i.places.items c.args.at None ≡ Some page = grind (arith, common_steps) in
    let loading : page.state.loading ≡ true =
    sym (ap is_loading (seen-at number i.places.items c.args.at page here))
    ∙ (rw (← c.self.view_is) at c.requires) in
    rw (c.mark.ensures, c.end_load-mark.ensures.page)
    (keeps-loaded number i.limit i.spare i.places.items i.guide i.pool c.args.at page c.fill_all.new.self c.end_load-mark.result
    c.release.new.self c.fill_all.new.pool c.self.invariant here (ap length c.fill_all.ensures.value ∙ length-replicate 4096 c.args.byte)
    loading c.end_load-mark.ensures.mark c.release.ensures (keeps-takes c.release.new.self c.fill_all.new.pool c.fill_all.ensures.pool))

pub returns : goal.returns
returns g c =
    let i = c.self.inside in
    let number = g.S.TagStore.number in
    let page = c.unwrap-page.result.now in
    let here : get_or i.places.items c.args.at None ≡ Some page = grind (arith, common_steps) in
    let touches = ap (λ (v : Guided). v.touches) c.mark.ensures in
    let bytes = c.fill_all.ensures.value in
    rw (← c.self.view_is, ← bytes, c.end_load-mark.ensures.page)
    (view-loaded number i.limit i.spare i.places.items i.guide i.pool c.args.at c.mark.new.self page
    c.fill_all.new.self here touches)
