use Rattle.std.proofs.Common.{ℕ, arith}
use Rattle.journal_core.specs.Causes.{Covered}
use Rattle.journal_core.specs.Places.{place_of}
use Rattle.journal_core.specs.Journaled.{Journaled, held_by}
use Rattle.journal_core.proofs.SeenLaws.{marked-moved, marked-result, marked-same}
use Rattle.journal_core.proofs.journal.Journal.mark.Goals as goal

pub mark-requires-clause-places : goal.mark-requires-clause-places
mark-requires-clause-places g c = let covers = rw (← c.self.view_is) at c.requires.uses in λ n. omega (arith, covers n)

pub returns-clause-moved : goal.returns-clause-moved
returns-clause-moved g c =
    let i = c.self.inside in
    let j : Journaled ℕ = record {
      marks = i.marks;
      round = i.round;
      slots = i.slots;
      images = i.images.items;
      logged =
          i.logged.items;
      work = i.work;
    } in
    rw (← c.self.view_is)
    (marked-moved (g.S.TagStore.now c.args.tags.now) (g.S.TagStore.now c.mark.new.tags) j c.mark.new.self
    c.mark.ensures.moved)

pub returns-clause-marked : goal.returns-clause-marked
returns-clause-marked g c =
    let i = c.self.inside in
    let j : Journaled ℕ = record {
      marks = i.marks;
      round = i.round;
      slots = i.slots;
      images = i.images.items;
      logged =
          i.logged.items;
      work = i.work;
    } in
    let old = g.S.TagStore.now c.args.tags.now in
    let new = g.S.TagStore.now c.mark.new.tags in
    let covers : Covered (held_by j) old = rw (← c.self.view_is) at c.requires.uses in
    rw (← c.self.view_is)
    (marked-result c.mark.result old new j c.mark.new.self c.place_of.result (place_of c.args.b)
    (old.members (g.S.TagStore.number c.args.by.now))
    c.place_of.ensures.place covers c.mark.ensures.moved c.mark.ensures.set)

pub returns-clause-err : goal.returns-clause-err
returns-clause-err g c =
    let i = c.self.inside in
    let j : Journaled ℕ = record {
      marks = i.marks;
      round = i.round;
      slots = i.slots;
      images = i.images.items;
      logged =
          i.logged.items;
      work = i.work;
    } in
    marked-same c.mark.result j c.args.self.now c.mark.new.self c.self.view_is c.mark.ensures.err
