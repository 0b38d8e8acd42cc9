use Rattle.std.proofs.Common.{◌≡◌, ◌∙◌, ℕ, List, Option, Some, None, set, length, ap, sym, subst, vec_capacity}
use Rattle.std.specs.Prelude.{IsSome, true}
use Rattle.journal_core.specs.declared.work.Work.{Work}
use Rattle.journal_core.specs.Causes.{Covered}
use Rattle.journal_core.specs.Places.{blocks_of, place_in}
use Rattle.journal_core.specs.Work.{begun, slot_in, added_work}
use Rattle.journal_core.specs.Journaled.{Journaled, IsJournal, seen, held_by, next_due, next_home, after_added}
use Rattle.journal_core.proofs.LogLaws.{home-some}
use Rattle.journal_core.proofs.StageLaws.{due-home, under-way}
use Rattle.journal_core.proofs.KeptLaws.{added-by, home-added, slot-added}
use Rattle.journal_core.proofs.journal.Journal.added.Goals as goal

pub added-requires-clause-work : goal.added-requires-clause-work
added-requires-clause-work g c = (length (blocks_of c.self.inside.round), c.self.invariant.work)

pub invariant_of-self : goal.invariant_of-self
invariant_of-self g c =
    let i = c.self.inside in
    let j : Journaled ℕ = record {
      marks = i.marks;
      round = i.round;
      slots = i.slots;
      images = i.images.items;
      logged =
          i.logged.items;
      work = i.work;
    } in
    let slot : slot_in (begun i.work) ≡ Some c.in-Some.field-0 = sym c.slot-slot.ensures ∙ c.in-Some.is in
    let due : IsSome (next_due j true) =
    subst (λ (k : Journaled ℕ). IsSome (next_due k true)) (sym c.self.view_is) c.requires.due in
    subst (λ (w : Work). IsJournal (vec_capacity i.logged) (record j { work = w })) (sym c.added.ensures)
    (added-by (vec_capacity i.logged) j (Some c.in-Some.field-0) slot c.self.invariant due)

pub invariant_of-self-in-None : goal.invariant_of-self-in-None
invariant_of-self-in-None g c =
    let i = c.self.inside in
    let j : Journaled ℕ = record {
      marks = i.marks;
      round = i.round;
      slots = i.slots;
      images = i.images.items;
      logged =
          i.logged.items;
      work = i.work;
    } in
    let none : slot_in (begun i.work) ≡ None = sym c.slot-slot.ensures ∙ c.in-None.is in
    let due : IsSome (next_due j true) =
    subst (λ (k : Journaled ℕ). IsSome (next_due k true)) (sym c.self.view_is) c.requires.due in
    subst (λ (w : Work). IsJournal (vec_capacity i.logged) (record j { round = c.carry.new.self; work = w }))
    (sym c.added.ensures)
    (subst
    (λ (xs : List (Option ℕ)). IsJournal (vec_capacity i.logged) (record j { round = xs; work = added_work i.work }))
    (sym c.carry.ensures.places)
    (added-by (vec_capacity i.logged) j None none c.self.invariant due))

pub returns-in-Some-clause-added : goal.returns-in-Some-clause-added
returns-in-Some-clause-added g c =
    let i = c.self.inside in
    let j : Journaled ℕ = record {
      marks = i.marks;
      round = i.round;
      slots = i.slots;
      images = i.images.items;
      logged =
          i.logged.items;
      work = i.work;
    } in
    let old = g.S.TagStore.now c.args.tags.now in
    let slot : slot_in (begun i.work) ≡ Some c.in-Some.field-0 = sym c.slot-slot.ensures ∙ c.in-Some.is in
    let done : seen old (record j { work = c.added.new.self }) ≡ after_added (seen old j) =
    ap (λ (w : Work). seen old (record j { work = w })) c.added.ensures ∙ slot-added old j c.in-Some.field-0 slot in
    subst (λ (k : Journaled ℕ). seen old (record j { work = c.added.new.self }) ≡ after_added (seen old k))
    c.self.view_is done

pub returns-in-None-clause-added : goal.returns-in-None-clause-added
returns-in-None-clause-added g c =
    let i = c.self.inside in
    let j : Journaled ℕ = record {
      marks = i.marks;
      round = i.round;
      slots = i.slots;
      images = i.images.items;
      logged =
          i.logged.items;
      work = i.work;
    } in
    let old = g.S.TagStore.now c.args.tags.now in
    let new = g.S.TagStore.now c.carry.new.tags in
    let none : slot_in (begun i.work) ≡ None = sym c.slot-slot.ensures ∙ c.in-None.is in
    let due : IsSome (next_due j true) =
    subst (λ (k : Journaled ℕ). IsSome (next_due k true)) (sym c.self.view_is) c.requires.due in
    let covers : Covered (held_by j) old = subst (λ (k : Journaled ℕ). Covered (held_by k) old) (sym c.self.view_is)
    c.requires.uses in
    let done : seen new (record j { round = c.carry.new.self; work = c.added.new.self }) ≡ after_added (seen old j) =
    ap (λ (xs : List (Option ℕ)). seen new (record j { round = xs; work = c.added.new.self })) c.carry.ensures.places
    ∙ ap (λ (w : Work). seen new (record j { round = set j.round (place_in (next_home j)) None; work = w }))
    c.added.ensures
    ∙ home-added old new j none (home-some j.round (due-home j due none)).0 covers c.carry.ensures.moved in
    subst
    (λ (k : Journaled ℕ). seen new (record j { round = c.carry.new.self; work = c.added.new.self })
    ≡ after_added (seen old k))
    c.self.view_is done

pub returns-in-Some-clause-under_way : goal.returns-in-Some-clause-under_way
returns-in-Some-clause-under_way g c =
    let i = c.self.inside in
    let j : Journaled ℕ = record {
      marks = i.marks;
      round = i.round;
      slots = i.slots;
      images = i.images.items;
      logged =
          i.logged.items;
      work = i.work;
    } in
    under-way c.args.self.now (record j { work = c.added.new.self })
    (c.added.ensures ∙ ap (λ (k : Journaled ℕ). added_work k.work) c.self.view_is)

pub returns-in-None-clause-under_way : goal.returns-in-None-clause-under_way
returns-in-None-clause-under_way g c =
    let i = c.self.inside in
    let j : Journaled ℕ = record {
      marks = i.marks;
      round = i.round;
      slots = i.slots;
      images = i.images.items;
      logged =
          i.logged.items;
      work = i.work;
    } in
    under-way c.args.self.now (record j { round = c.carry.new.self; work = c.added.new.self })
    (c.added.ensures ∙ ap (λ (k : Journaled ℕ). added_work k.work) c.self.view_is)
