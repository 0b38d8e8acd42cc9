use Rattle.page_cache.specs.Steps.{IsPlaced}
use Rattle.page_cache.proofs.CallLaws.{is-there, some-at}
use Rattle.page_cache.proofs.TakeLaws.{placed-tagged, placed-tag, not-held}
use Rattle.page_cache.proofs.cache.Cache.ready_tag.Goals as goal

pub unwrap-at-requires : goal.unwrap-at-requires
unwrap-at-requires g c =
    is-there c.place_of.result _ c.place_of.ensures.none (not-held c.args.self.now c.args.b c.requires)

pub tag_at-requires : goal.tag_at-requires
tag_at-requires g c =
    placed-tagged c.args.self.now c.args.b c.unwrap-at.result c.requires
    (some-at c.place_of.result c.unwrap-at.result (IsPlaced c.args.self.now.places c.args.b) c.unwrap-at.ensures
    c.place_of.ensures.some)

pub returns-clause-tag : goal.returns-clause-tag
returns-clause-tag g c =
    placed-tag c.args.self.now c.args.b c.unwrap-at.result (g.S.TagStore.number c.tag_at.result.now)
    (some-at c.place_of.result c.unwrap-at.result (IsPlaced c.args.self.now.places c.args.b) c.unwrap-at.ensures
    c.place_of.ensures.some)
    c.tag_at.ensures
