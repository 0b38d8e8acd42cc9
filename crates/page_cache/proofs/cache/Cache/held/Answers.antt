use Rattle.std.proofs.Common.{◌∙◌, arith}
use Rattle.page_cache.specs.Fields.{all_seen}
use Rattle.page_cache.proofs.FindLaws.{held-count}
use Rattle.page_cache.proofs.cache.Cache.held.Goals as goal

pub overflow_cast-result : goal.overflow_cast-result
overflow_cast-result g c =
    let i = c.self.inside in
    let places = all_seen g.S.TagStore.number i.places.items in
    omega (
      arith,
      c.held.ensures,
      held-count i.guide places c.self.invariant.guided,
      c.self.invariant.ready.within,
      c.self.invariant.small,
    )

pub returns : goal.returns
returns g c =
    let i = c.self.inside in
    let places = all_seen g.S.TagStore.number i.places.items in
    rw (← c.self.view_is) (c.held.ensures ∙ held-count i.guide places c.self.invariant.guided)
