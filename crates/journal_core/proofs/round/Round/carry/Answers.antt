use Rattle.std.proofs.Common.{◌-◌, ◌∙◌, length-set, get_or, set, replicate, None, ap, sym, subst, arith}
use Rattle.std.specs.Option.{option_map}
use Rattle.std.proofs.lemmas.List.{get_or_read, map-set}
use Rattle.cause_set.specs.Tags.{Moved, no_use, same, use_in}
use Rattle.journal_core.proofs.PlaceLaws.{next-is, left-within, seen-first}
use Rattle.journal_core.proofs.SameLaws.{place-live, place-moved}
use Rattle.journal_core.proofs.round.Round.carry.Goals as goal

pub index-requires : goal.index-requires
index-requires g c =
    let r = c.self.inside in
    omega (
      arith,
      r.homes.ok.0,
      left-within g.S.TagStore.number r.tags.items c.args.self.now r.homes.items r.carried c.self.invariant.left
          c.self.view_is c.requires.some,
    )

pub overflow_sub-at : goal.overflow_sub-at
overflow_sub-at g c =
    let r = c.self.inside in
    let within = left-within g.S.TagStore.number r.tags.items c.args.self.now r.homes.items r.carried
    c.self.invariant.left c.self.view_is c.requires.some in
    (next-is r.tags.items r.homes.items r.carried c.index.result.now c.self.invariant.left within c.index.ensures).some

pub index_mut-requires : goal.index_mut-requires
index_mut-requires g c =
    let r = c.self.inside in
    let within = left-within g.S.TagStore.number r.tags.items c.args.self.now r.homes.items r.carried
    c.self.invariant.left c.self.view_is c.requires.some in
    let next = next-is r.tags.items r.homes.items r.carried c.index.result.now c.self.invariant.left within
    c.index.ensures in
    omega (arith, r.tags.ok.0, next.within)

pub free-requires : goal.free-requires
free-requires g c =
    let r = c.self.inside in
    let at = c.index.result.now - 1 in
    let within = left-within g.S.TagStore.number r.tags.items c.args.self.now r.homes.items r.carried
    c.self.invariant.left c.self.view_is c.requires.some in
    let next = next-is r.tags.items r.homes.items r.carried c.index.result.now c.self.invariant.left within
    c.index.ensures in
    place-live g.S.TagStore.number (g.S.TagStore.now c.args.tags.now) r.tags.items at c.index_mut.result.now
    (get_or_read r.tags.items at c.index_mut.result.now next.within c.index_mut.ensures.value None)
    (rw (← c.self.view_is) at c.requires.places)

pub invariant_of-self : goal.invariant_of-self
invariant_of-self g c =
    let r = c.self.inside in
    let at = c.index.result.now - 1 in
    let within = left-within g.S.TagStore.number r.tags.items c.args.self.now r.homes.items r.carried
    c.self.invariant.left c.self.view_is c.requires.some in
    let next = next-is r.tags.items r.homes.items r.carried c.index.result.now c.self.invariant.left within
    c.index.ensures in
    let len = length-set r.tags.items at None in
    rw c.free.ensures.place
    record {
      few = omega (arith, len, c.self.invariant.few);
      empty = c.self.invariant.empty ∙ ap (λ n. replicate n None) (sym len);
      enough = omega (arith, len, c.self.invariant.enough);
      left = sym next.rest;
      within = omega (arith, within);
    }

pub returns-clause-places : goal.returns-clause-places
returns-clause-places g c =
    let r = c.self.inside in
    let at = c.index.result.now - 1 in
    let within = left-within g.S.TagStore.number r.tags.items c.args.self.now r.homes.items r.carried
    c.self.invariant.left c.self.view_is c.requires.some in
    let next = next-is r.tags.items r.homes.items r.carried c.index.result.now c.self.invariant.left within
    c.index.ensures in
    let first = seen-first g.S.TagStore.number r.tags.items c.args.self.now c.index.result.now c.self.view_is next.here
    in
    rw (c.free.ensures.place, first)
    (map-set (option_map g.S.TagStore.number) r.tags.items at None ∙ ap (λ xs. set xs at None) c.self.view_is)

pub returns-clause-moved : goal.returns-clause-moved
returns-clause-moved g c =
    let r = c.self.inside in
    let old = g.S.TagStore.now c.args.tags.now in
    let new = g.S.TagStore.now c.free.new.tags in
    let at = c.index.result.now - 1 in
    let within = left-within g.S.TagStore.number r.tags.items c.args.self.now r.homes.items r.carried
    c.self.invariant.left c.self.view_is c.requires.some in
    let next = next-is r.tags.items r.homes.items r.carried c.index.result.now c.self.invariant.left within
    c.index.ensures in
    let first = seen-first g.S.TagStore.number r.tags.items c.args.self.now c.index.result.now c.self.view_is next.here
    in
    rw first
    (subst (λ xs. Moved old new (use_in same (get_or xs at None)) no_use) c.self.view_is
    (place-moved g.S.TagStore.number old new r.tags.items at c.index_mut.result.now
    (get_or_read r.tags.items at c.index_mut.result.now next.within c.index_mut.ensures.value None)
    c.free.ensures.moved))
