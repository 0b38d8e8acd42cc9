use Rattle.std.proofs.Common.{◌≡◌, None, true, replicate}
use Rattle.page_cache.specs.Cached.{is_loading}
use Rattle.page_cache.specs.Steps.{IsPlaced}
use Rattle.page_cache.proofs.CallLaws.{is-there, some-at}
use Rattle.page_cache.proofs.MoreLaws.{loaded-page, loaded-touched, loaded-spare}
use Rattle.page_cache.proofs.cache.Cache.load_filled.Goals as goal

pub unwrap-at-requires : goal.unwrap-at-requires
unwrap-at-requires g c =
    is-there c.place_of.result _ c.place_of.ensures.none
    (λ none. let no : is_loading None ≡ true = rw none at c.requires in absurd (cc))

pub fill_in-requires : goal.fill_in-requires
fill_in-requires g c =
    let placed =
    some-at c.place_of.result c.unwrap-at.result (IsPlaced c.args.self.now.places c.args.b) c.unwrap-at.ensures
    c.place_of.ensures.some in
    rw placed.slot.page at c.requires

pub returns-clause-page : goal.returns-clause-page
returns-clause-page g c =
    let placed =
    some-at c.place_of.result c.unwrap-at.result (IsPlaced c.args.self.now.places c.args.b) c.unwrap-at.ensures
    c.place_of.ensures.some in
    loaded-page c.args.self.now c.fill_in.new.self c.touch.new.self c.args.b c.unwrap-at.result
    (replicate 4096 c.args.byte) placed c.fill_in.ensures c.touch.ensures.rest

pub returns-clause-touched : goal.returns-clause-touched
returns-clause-touched g c =
    let placed =
    some-at c.place_of.result c.unwrap-at.result (IsPlaced c.args.self.now.places c.args.b) c.unwrap-at.ensures
    c.place_of.ensures.some in
    loaded-touched c.args.self.now c.fill_in.new.self c.touch.new.self c.args.b c.unwrap-at.result
    (replicate 4096 c.args.byte) placed c.fill_in.ensures c.touch.ensures.rest c.touch.ensures.len c.touch.ensures.touches

pub returns-clause-spare : goal.returns-clause-spare
returns-clause-spare g c =
    let placed =
    some-at c.place_of.result c.unwrap-at.result (IsPlaced c.args.self.now.places c.args.b) c.unwrap-at.ensures
    c.place_of.ensures.some in
    loaded-spare c.args.self.now c.fill_in.new.self c.touch.new.self c.args.b c.unwrap-at.result
    (replicate 4096 c.args.byte) placed c.fill_in.ensures c.touch.ensures.rest
