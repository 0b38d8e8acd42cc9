use Rattle.page_cache.specs.Steps.{IsPlaced}
use Rattle.page_cache.proofs.CallLaws.{is-there, some-at}
use Rattle.page_cache.proofs.cache.Cache.peek_sum.Goals as goal

pub unwrap-requires : goal.unwrap-requires
unwrap-requires g c = is-there c.place_of.result _ c.place_of.ensures.none (λ none. rw none at c.requires.page)

pub sum_at-requires-clause-page : goal.sum_at-requires-clause-page
sum_at-requires-clause-page g c =
    (some-at c.place_of.result c.unwrap.result (IsPlaced c.args.self.now.places c.args.b) c.unwrap.ensures
    c.place_of.ensures.some).held

pub returns : goal.returns
returns g c =
    let placed = some-at c.place_of.result c.unwrap.result (IsPlaced c.args.self.now.places c.args.b) c.unwrap.ensures
    c.place_of.ensures.some in
    rw placed.slot.page c.sum_at.ensures
