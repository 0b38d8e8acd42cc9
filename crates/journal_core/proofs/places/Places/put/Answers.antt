use Rattle.std.proofs.Common.{◌<◌, ◌∙◌, length, length-set, get_or, set, Some, None, arith, ap, subst}
use Rattle.std.specs.Option.{option_map}
use Rattle.std.proofs.lemmas.List.{get_or_read, length-map, map-set}
use Rattle.cause_set.specs.Tags.{Moved, no_use, same, use_in}
use Rattle.journal_core.proofs.PlaceLaws.{count-put, blocks-at_most}
use Rattle.journal_core.proofs.SameLaws.{place-live, place-moved}
use Rattle.journal_core.proofs.places.Places.put.Goals as goal

pub put-requires : goal.put-requires
put-requires g c =
    let places = c.self.inside.tags.items in
    let len = length-map places (option_map g.S.TagStore.number) in
    let inside : c.args.at < length places = omega (arith, c.requires.at, len, ap length c.self.view_is) in
    place-live g.S.TagStore.number (g.S.TagStore.now c.args.tags.now) places c.args.at c.index_mut.result.now
    (get_or_read places c.args.at c.index_mut.result.now inside c.index_mut.ensures.value None)
    (rw (← c.self.view_is) at c.requires.places)

pub overflow_add-self : goal.overflow_add-self
overflow_add-self g c =
    let places = c.self.inside.tags.items in
    let len = length-map places (option_map g.S.TagStore.number) in
    let inside : c.args.at < length places = omega (arith, c.requires.at, len, ap length c.self.view_is) in
    let counted =
    count-put places c.args.at c.args.t c.index.result.now c.is_some-was_taken.result c.self.inside.taken c.from.result
    inside
    (get_or_read places c.args.at c.index.result.now inside c.index.ensures None) c.is_some-was_taken.ensures
    c.from.ensures c.self.invariant.counted in
    omega (
      arith,
      counted,
      blocks-at_most (set places c.args.at (Some c.args.t)),
      length-set places c.args.at (Some c.args.t),
      c.self.invariant.few,
    )

pub invariant_of-self : goal.invariant_of-self
invariant_of-self g c =
    let places = c.self.inside.tags.items in
    let len = length-map places (option_map g.S.TagStore.number) in
    let inside : c.args.at < length places = omega (arith, c.requires.at, len, ap length c.self.view_is) in
    rw c.put.ensures.place
    record {
      few = omega (arith, c.self.invariant.few, length-set places c.args.at (Some c.args.t));
      counted =
          count-put places c.args.at c.args.t c.index.result.now c.is_some-was_taken.result c.self.inside.taken
          c.from.result inside
          (get_or_read places c.args.at c.index.result.now inside c.index.ensures None) c.is_some-was_taken.ensures
          c.from.ensures c.self.invariant.counted;
    }

pub returns-clause-places : goal.returns-clause-places
returns-clause-places g c =
    let places = c.self.inside.tags.items in
    rw c.put.ensures.place
    (map-set (option_map g.S.TagStore.number) places c.args.at (Some c.args.t)
    ∙ ap (λ xs. set xs c.args.at (Some (g.S.TagStore.number c.args.t))) c.self.view_is)

pub returns-clause-moved : goal.returns-clause-moved
returns-clause-moved g c =
    let places = c.self.inside.tags.items in
    let old = g.S.TagStore.now c.args.tags.now in
    let new = g.S.TagStore.now c.put.new.tags in
    let len = length-map places (option_map g.S.TagStore.number) in
    let inside : c.args.at < length places = omega (arith, c.requires.at, len, ap length c.self.view_is) in
    subst (λ xs. Moved old new (use_in same (get_or xs c.args.at None)) no_use) c.self.view_is
    (place-moved g.S.TagStore.number old new places c.args.at c.index_mut.result.now
    (get_or_read places c.args.at c.index_mut.result.now inside c.index_mut.ensures.value None) c.put.ensures.moved)
