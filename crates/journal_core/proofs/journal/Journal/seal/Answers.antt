use Rattle.std.proofs.Common.{◌≡◌, ◌<◌, ◌∙◌, ℕ, Some, length, set, vec_capacity, ap, sym, arith}
use Rattle.std.specs.Prelude.{IsTrue}
use Rattle.split_types.specs.LiveFiles.{metadata_block}
use Rattle.split_types.specs.Parents.{buffer_at}
use Rattle.cause_set.specs.Tags.{same, held}
use Rattle.cause_set.proofs.TagLaws.{held-same}
use Rattle.journal_core.specs.Causes.{Covered, causes_at, joined_all}
use Rattle.journal_core.specs.Places.{blocks_of, taken_from}
use Rattle.journal_core.specs.Journaled.{Journaled, held_by, can_seal}
use Rattle.journal_core.proofs.CauseLaws.{causes_at-empty}
use Rattle.journal_core.proofs.PlaceLaws.{blocks-map}
use Rattle.journal_core.proofs.SameLaws.{causes_at-same}
use Rattle.journal_core.proofs.LogLaws.{taken-map, taken-length}
use Rattle.journal_core.proofs.SeenLaws.{Seals, sealed-moved, sealed-round, sealed-slots}
use Rattle.journal_core.proofs.KeptLaws.{sealed-kept, sealed-seen, seal-within}
use Rattle.journal_core.proofs.journal.Journal.seal.Goals as goal

pub take-requires-clause-uses : goal.take-requires-clause-uses
take-requires-clause-uses g c =
    let covers = rw (← c.self.view_is) at c.requires.uses in
    λ n.
    omega (
      arith,
      covers n,
      c.in_ok-causes.ensures.moved.uses n,
      held-same g.S.TagStore.number c.as_slice.result.now n,
      ap (λ xs. held same xs n) c.as_slice.ensures,
    )

pub invariant_of-self-3 : goal.invariant_of-self-3
invariant_of-self-3 g c =
    let i = c.self.inside in
    let j : Journaled ℕ = record {
      marks = i.marks;
      round = i.round;
      slots = i.slots;
      images = i.images.items;
      logged =
          i.logged.items;
      work = i.work;
    } in
    let due : IsTrue (can_seal j) = rw (← c.self.view_is) at c.requires.due in
    let few : i.work.sealed < 4294967295 = rw (← c.self.view_is) at c.requires.few in
    let images : length c.take_images.new.images.items ≡ length i.images.items =
    ap length c.take_images.ensures
    ∙ taken-length (λ block. metadata_block c.args.fs.now.first c.args.fs.now.slots (buffer_at block)) 1
    c.as_slice-2.result.now i.images.items in
    let blocks : c.list_blocks.new.into.items ≡ blocks_of i.marks =
    c.list_blocks.ensures.blocks ∙ sym (blocks-map g.S.TagStore.number 1 c.as_slice-3.result.now)
    ∙ ap blocks_of c.as_slice-3.ensures in
    rw (c.free_all.ensures.places, c.put.ensures.places, blocks, c.seal.ensures)
    (sealed-kept (vec_capacity i.logged) (vec_capacity c.list_blocks.new.into) j c.take.new.self
    c.take_images.new.images.items
    (g.S.TagStore.number c.in_ok-causes.causes) c.self.invariant due few c.list_blocks.ensures.room c.take.ensures.len
    images)

pub returns-clause-moved : goal.returns-clause-moved
returns-clause-moved g c =
    let i = c.self.inside in
    let j : Journaled ℕ = record {
      marks = i.marks;
      round = i.round;
      slots = i.slots;
      images = i.images.items;
      logged =
          i.logged.items;
      work = i.work;
    } in
    let number = g.S.TagStore.number in
    let t0 = g.S.TagStore.now c.args.tags.now in
    let t1 = g.S.TagStore.now c.union.new.tags in
    let t2 = g.S.TagStore.now c.take.new.tags in
    let t3 = g.S.TagStore.now c.free_all.new.tags in
    let t4 = g.S.TagStore.now c.put.new.tags in
    let one = number c.in_ok-causes.causes in
    let due : IsTrue (can_seal j) = rw (← c.self.view_is) at c.requires.due in
    let covers : Covered (held_by j) t0 = rw (← c.self.view_is) at c.requires.uses in
    let joins : causes_at same t2 c.take.new.self ≡ joined_all (causes_at same t1 i.round) (causes_at same t1 i.marks) =
    c.in_default.ensures.set
    ∙ ap (λ xs. joined_all (causes_at same t1 i.round) xs) (sym (causes_at-same number t1 c.as_slice.result.now)
    ∙ ap (causes_at same t1) c.as_slice.ensures) in
    let s : Seals t0 t1 t2 t3 t4 one i.marks i.round c.take.new.self i.slots i.work.used = record {
      within = seal-within j due;
      covers = covers;
      whole = c.in_ok-causes.ensures.moved;
      causes = c.in_ok-causes.ensures.set;
      joins = c.take.ensures.moved;
      joined = joins;
      freed = c.free_all.ensures.moved;
      placed = c.put.ensures.moved;
    } in
    rw (← c.self.view_is, c.free_all.ensures.places, c.put.ensures.places)
    (sealed-moved t0 t1 t2 t3 t4 one i.marks i.round c.take.new.self i.slots i.work.used s)

pub returns-clause-sealed : goal.returns-clause-sealed
returns-clause-sealed g c =
    let i = c.self.inside in
    let j : Journaled ℕ = record {
      marks = i.marks;
      round = i.round;
      slots = i.slots;
      images = i.images.items;
      logged =
          i.logged.items;
      work = i.work;
    } in
    let number = g.S.TagStore.number in
    let t0 = g.S.TagStore.now c.args.tags.now in
    let t1 = g.S.TagStore.now c.union.new.tags in
    let t2 = g.S.TagStore.now c.take.new.tags in
    let t3 = g.S.TagStore.now c.free_all.new.tags in
    let t4 = g.S.TagStore.now c.put.new.tags in
    let one = number c.in_ok-causes.causes in
    let due : IsTrue (can_seal j) = rw (← c.self.view_is) at c.requires.due in
    let covers : Covered (held_by j) t0 = rw (← c.self.view_is) at c.requires.uses in
    let joins : causes_at same t2 c.take.new.self ≡ joined_all (causes_at same t1 i.round) (causes_at same t1 i.marks) =
    c.in_default.ensures.set
    ∙ ap (λ xs. joined_all (causes_at same t1 i.round) xs) (sym (causes_at-same number t1 c.as_slice.result.now)
    ∙ ap (causes_at same t1) c.as_slice.ensures) in
    let s : Seals t0 t1 t2 t3 t4 one i.marks i.round c.take.new.self i.slots i.work.used = record {
      within = seal-within j due;
      covers = covers;
      whole = c.in_ok-causes.ensures.moved;
      causes = c.in_ok-causes.ensures.set;
      joins = c.take.ensures.moved;
      joined = joins;
      freed = c.free_all.ensures.moved;
      placed = c.put.ensures.moved;
    } in
    let image = λ (block : ℕ). metadata_block c.args.fs.now.first c.args.fs.now.slots (buffer_at block) in
    let images : c.take_images.new.images.items ≡ taken_from image 1 i.marks i.images.items =
    c.take_images.ensures ∙ sym (taken-map number image 1 c.as_slice-2.result.now i.images.items)
    ∙ ap (λ ms. taken_from image 1 ms i.images.items) c.as_slice-2.ensures in
    let blocks : c.list_blocks.new.into.items ≡ blocks_of i.marks =
    c.list_blocks.ensures.blocks ∙ sym (blocks-map number 1 c.as_slice-3.result.now)
    ∙ ap blocks_of c.as_slice-3.ensures in
    rw (← c.self.view_is, c.free_all.ensures.places, c.put.ensures.places, c.seal.ensures)
    (sealed-seen t0 t4 c.args.fs.now.first c.args.fs.now.slots j c.take.new.self (set i.slots i.work.used (Some one))
    c.take_images.new.images.items c.list_blocks.new.into.items
    (sealed-round t0 t1 t2 t3 t4 one i.marks i.round c.take.new.self i.slots i.work.used s)
    (sealed-slots t0 t1 t2 t3 t4 one i.marks i.round c.take.new.self i.slots i.work.used s) images blocks
    (causes_at-empty same t4 (length i.marks)))
