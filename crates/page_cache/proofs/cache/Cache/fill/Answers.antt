use Rattle.std.proofs.Common.{◌≡◌, Some, None, get_or, arith}
use Rattle.std.proofs.lemmas.Grind.{common_steps}
use Rattle.page_cache.specs.Bytes.{filled}
use Rattle.page_cache.proofs.PageLaws.{keeps-bytes, view-bytes}
use Rattle.page_cache.proofs.cache.Cache.fill.Goals as goal

pub invariant_of-self : goal.invariant_of-self
invariant_of-self g c =
    let i = c.self.inside in
    let here : get_or i.places.items c.args.at None ≡ Some c.unwrap-page.result.now = grind (arith, common_steps) in
    keeps-bytes g.S.TagStore.number i.limit i.spare i.places.items i.guide i.pool c.args.at c.unwrap-page.result.now
    c.fill.new.self c.fill.new.pool
    c.self.invariant here c.fill.ensures.len (rw (← c.self.view_is) at c.requires.ready) c.fill.ensures.pool

pub returns : goal.returns
returns g c =
    let i = c.self.inside in
    let here : get_or i.places.items c.args.at None ≡ Some c.unwrap-page.result.now = grind (arith, common_steps) in
    rw (← c.self.view_is)
    (view-bytes g.S.TagStore.number i.limit i.spare i.places.items i.guide i.pool c.args.at c.unwrap-page.result.now
    c.fill.new.self (λ bytes. filled bytes c.args.from c.args.to c.args.byte) here c.fill.ensures.value)
