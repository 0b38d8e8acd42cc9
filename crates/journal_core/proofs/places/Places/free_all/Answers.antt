use Rattle.std.proofs.Common.{◌∙◌, Option, length, replicate, None, ap, sym, subst}
use Rattle.std.specs.Option.{option_map}
use Rattle.std.proofs.lemmas.List.{length-replicate, length-map}
use Rattle.cause_set.specs.Tags.{Moved, no_use, same, held}
use Rattle.journal_core.proofs.PlaceLaws.{no-blocks, empty-map}
use Rattle.journal_core.proofs.SameLaws.{all-moved}
use Rattle.journal_core.proofs.places.Places.free_all.Goals as goal

pub invariant_of-self : goal.invariant_of-self
invariant_of-self g c =
    let len = length c.self.inside.tags.items in
    rw c.free_all.ensures.places
    record {
      few = rw (length-replicate {A = Option g.row.S-Tag.Denot} len None) c.self.invariant.few;
      counted = ap length (sym (no-blocks g.row.S-Tag.Denot len));
    }

pub returns-clause-places : goal.returns-clause-places
returns-clause-places g c =
    let places = c.self.inside.tags.items in
    rw c.free_all.ensures.places
    (empty-map g.S.TagStore.number (length places)
    ∙ ap (λ n. replicate n None) (sym (length-map places (option_map g.S.TagStore.number)) ∙ ap length c.self.view_is))

pub returns-clause-moved : goal.returns-clause-moved
returns-clause-moved g c =
    let old = g.S.TagStore.now c.args.tags.now in
    let new = g.S.TagStore.now c.free_all.new.tags in
    subst (λ xs. Moved old new (held same xs) no_use) c.self.view_is
    (all-moved g.S.TagStore.number old new c.self.inside.tags.items c.free_all.ensures.moved)
