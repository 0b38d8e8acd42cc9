use Rattle.std.proofs.Common.{◌≡◌, None, true, ap}
use Rattle.page_cache.specs.Cached.{Cached, is_idle}
use Rattle.page_cache.specs.Steps.{IsPlaced}
use Rattle.page_cache.proofs.CallLaws.{is-there, some-at, leaves, leaves-touches}
use Rattle.page_cache.proofs.cache.Cache.evict.Goals as goal

pub unwrap-at-requires : goal.unwrap-at-requires
unwrap-at-requires g c =
    is-there c.place_of.result _ c.place_of.ensures.none
    (λ none. let no : is_idle None ≡ true = rw none at c.requires.idle in absurd (cc))

pub leave-requires : goal.leave-requires
leave-requires g c =
    (some-at c.place_of.result c.unwrap-at.result (IsPlaced c.args.self.now.places c.args.b) c.unwrap-at.ensures
    c.place_of.ensures.some).held

pub returns-clause-page : goal.returns-clause-page
returns-clause-page g c =
    leaves c.args.self.now c.leave.new.self c.args.b c.unwrap-at.result
    (some-at c.place_of.result c.unwrap-at.result (IsPlaced c.args.self.now.places c.args.b) c.unwrap-at.ensures
    c.place_of.ensures.some)
    c.leave.ensures.rest

pub returns-clause-touches : goal.returns-clause-touches
returns-clause-touches g c =
    leaves-touches c.args.self.now c.leave.new.self c.args.b c.unwrap-at.result
    (some-at c.place_of.result c.unwrap-at.result (IsPlaced c.args.self.now.places c.args.b) c.unwrap-at.ensures
    c.place_of.ensures.some)
    c.leave.ensures.rest

pub returns-clause-spare : goal.returns-clause-spare
returns-clause-spare g c = ap (λ (v : Cached). v.spare) c.leave.ensures.rest
