use Rattle.std.proofs.Common.{sym}
use Rattle.page_cache.specs.Fields.{all_seen}
use Rattle.page_cache.proofs.ListLaws.{if_none-as, if_some-as, none-anyway}
use Rattle.page_cache.proofs.FreeLaws.{sound-data}
use Rattle.page_cache.proofs.FindLaws.{no-key, place-absent, place-found}
use Rattle.page_cache.proofs.cache.Cache.place_of.Goals as goal

pub returns-in_err-of-clause-none : goal.returns-in_err-of-clause-none
returns-in_err-of-clause-none g c =
    none-anyway c.from_residual.result _ (no-key c.args.b c.args.self.now.places (sym c.in_err-of.ensures))

pub returns-clause-none : goal.returns-clause-none
returns-clause-none g c =
    let i = c.self.inside in
    let places = all_seen g.S.TagStore.number i.places.items in
    rw (← c.self.view_is)
    (if_none-as c.find.result _ _ c.find.ensures.none
    (place-absent c.args.b c.in_ok-of.field-0 i.guide places (sym c.in_ok-of.ensures) c.self.invariant.guided))

pub returns-clause-some : goal.returns-clause-some
returns-clause-some g c =
    let i = c.self.inside in
    let places = all_seen g.S.TagStore.number i.places.items in
    rw (← c.self.view_is)
    (if_some-as c.find.result _ _ c.find.ensures.place
    (λ at. place-found c.args.b c.in_ok-of.field-0 i.guide places at (sym c.in_ok-of.ensures) c.self.invariant.guided))

pub returns-in_err-of-clause-numbers : goal.returns-in_err-of-clause-numbers
returns-in_err-of-clause-numbers g c =
    rw (← c.self.view_is) (sound-data (all_seen g.S.TagStore.number c.self.inside.places.items) c.self.invariant.sound)

pub returns-clause-numbers : goal.returns-clause-numbers
returns-clause-numbers g c =
    rw (← c.self.view_is) (sound-data (all_seen g.S.TagStore.number c.self.inside.places.items) c.self.invariant.sound)
