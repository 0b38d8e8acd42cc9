use Rattle.std.proofs.Common.{◌∙◌, arith}
use Rattle.page_cache.specs.Fields.{all_seen}
use Rattle.page_cache.proofs.FindLaws.{unsettled-count, unsettled-held}
use Rattle.page_cache.proofs.cache.Cache.dirty_or_busy.Goals as goal

pub overflow_cast-result : goal.overflow_cast-result
overflow_cast-result g c =
    let i = c.self.inside in
    let places = all_seen g.S.TagStore.number i.places.items in
    omega (
      arith,
      c.unsettled.ensures,
      unsettled-count i.guide places c.self.invariant.guided,
      unsettled-held places,
      c.self.invariant.ready.within,
      c.self.invariant.small,
    )

pub returns : goal.returns
returns g c =
    let i = c.self.inside in
    let places = all_seen g.S.TagStore.number i.places.items in
    rw (← c.self.view_is) (c.unsettled.ensures ∙ unsettled-count i.guide places c.self.invariant.guided)
