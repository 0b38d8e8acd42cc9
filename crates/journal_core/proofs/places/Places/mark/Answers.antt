use Rattle.std.proofs.Common.{◌≡◌, ◌<◌, ◌∙◌, length, get_or, set, Some, None, arith, ap}
use Rattle.std.specs.Option.{option_map}
use Rattle.std.proofs.lemmas.List.{get_or_read, length-map}
use Rattle.cause_set.specs.Tags.{same}
use Rattle.journal_core.specs.Causes.{causes_in, causes_at, wider}
use Rattle.journal_core.proofs.CauseLaws.{marked-causes}
use Rattle.journal_core.proofs.SameLaws.{place-live, place-causes, put-moved}
use Rattle.journal_core.proofs.places.Places.mark.Goals as goal

pub widened-requires-clause-place : goal.widened-requires-clause-place
widened-requires-clause-place g c =
    let places = c.self.inside.tags.items in
    let len = length-map places (option_map g.S.TagStore.number) in
    let inside : c.args.at < length places = omega (arith, c.requires.at, len, ap length c.self.view_is) in
    place-live g.S.TagStore.number (g.S.TagStore.now c.args.tags.now) places c.args.at c.index.result.now
    (get_or_read places c.args.at c.index.result.now inside c.index.ensures None)
    (rw (← c.self.view_is) at c.requires.places)

pub returns-clause-moved : goal.returns-clause-moved
returns-clause-moved g c =
    rw c.put.ensures.places
    (put-moved (g.S.TagStore.now c.args.tags.now) (g.S.TagStore.now c.widened.new.tags)
    (g.S.TagStore.now c.put.new.tags) c.args.self.now c.args.at
    (g.S.TagStore.number c.in_ok-t.t) c.requires.at c.in_ok-t.ensures.moved c.put.ensures.moved)

pub returns-clause-set : goal.returns-clause-set
returns-clause-set g c =
    let number = g.S.TagStore.number in
    let old = g.S.TagStore.now c.args.tags.now in
    let mid = g.S.TagStore.now c.widened.new.tags in
    let new = g.S.TagStore.now c.put.new.tags in
    let places = c.self.inside.tags.items in
    let seen = c.args.self.now in
    let at = c.args.at in
    let by = old.members (number c.args.by.now) in
    let len = length-map places (option_map number) in
    let inside : at < length places = omega (arith, c.requires.at, len, ap length c.self.view_is) in
    let before : causes_in number old c.index.result.now ≡ get_or (causes_at same old seen) at None =
    place-causes number old places at c.index.result.now
    (get_or_read places at c.index.result.now inside c.index.ensures None)
    ∙ ap (λ xs. get_or (causes_at same old xs) at None) c.self.view_is in
    let members : mid.members (number c.in_ok-t.t) ≡ wider (get_or (causes_at same old seen) at None) by =
    c.in_ok-t.ensures.set ∙ ap (λ x. wider x by) before in
    rw c.put.ensures.places
    (marked-causes same old mid new seen at (number c.in_ok-t.t) c.requires.at c.requires.places c.in_ok-t.ensures.moved
    c.put.ensures.moved
    ∙ ap (λ x. set (causes_at same old seen) at (Some x)) members)
