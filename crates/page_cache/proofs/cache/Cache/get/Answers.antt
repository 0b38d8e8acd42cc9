use Rattle.std.proofs.Common.{ap}
use Rattle.page_cache.specs.Cached.{Cached}
use Rattle.page_cache.specs.Steps.{IsPlaced}
use Rattle.page_cache.proofs.CallLaws.{is-there, some-at, touches-alone}
use Rattle.page_cache.proofs.cache.Cache.get.Goals as goal

pub unwrap-at-requires : goal.unwrap-at-requires
unwrap-at-requires g c = is-there c.place_of.result _ c.place_of.ensures.none (λ none. rw none at c.requires.page)

pub touch-requires : goal.touch-requires
touch-requires g c =
    (some-at c.place_of.result c.unwrap-at.result (IsPlaced c.args.self.now.places c.args.b) c.unwrap-at.ensures
    c.place_of.ensures.some).slot.within

pub sum_at-requires-clause-page : goal.sum_at-requires-clause-page
sum_at-requires-clause-page g c =
    rw c.touch.ensures.rest
    ((some-at c.place_of.result c.unwrap-at.result (IsPlaced c.args.self.now.places c.args.b) c.unwrap-at.ensures
    c.place_of.ensures.some).held)

pub returns-clause-sum : goal.returns-clause-sum
returns-clause-sum g c =
    let placed = some-at c.place_of.result c.unwrap-at.result (IsPlaced c.args.self.now.places c.args.b)
    c.unwrap-at.ensures c.place_of.ensures.some in
    let places = ap (λ (v : Cached). v.places) c.touch.ensures.rest in
    rw placed.slot.page (rw places at c.sum_at.ensures)

pub returns-clause-touched : goal.returns-clause-touched
returns-clause-touched g c =
    let placed = some-at c.place_of.result c.unwrap-at.result (IsPlaced c.args.self.now.places c.args.b)
    c.unwrap-at.ensures c.place_of.ensures.some in
    touches-alone c.args.self.now c.touch.new.self c.args.b c.unwrap-at.result placed
    (ap (λ (v : Cached). v.places) c.touch.ensures.rest)
    c.touch.ensures.len c.touch.ensures.touches
