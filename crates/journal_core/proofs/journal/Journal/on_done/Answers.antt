use Rattle.std.proofs.Common.{◌≡◌, ◌<◌, ◌∙◌, ℕ, Bool, List, Option, Some, None, set, length, vec_capacity, ap, sym, subst, arith}
use Rattle.std.specs.Prelude.{nat_lt}
use Rattle.journal_core.specs.declared.work.Work.{Work}
use Rattle.journal_core.specs.Causes.{Covered}
use Rattle.journal_core.specs.Places.{blocks_of}
use Rattle.journal_core.specs.Work.{cleared_slot, done_work}
use Rattle.journal_core.specs.Journaled.{Journaled, seen, held_by, after_done}
use Rattle.journal_core.proofs.StageLaws.{cleared-used}
use Rattle.journal_core.proofs.KeptLaws.{clear-done, other-done, done-kept}
use Rattle.journal_core.proofs.journal.Journal.on_done.Goals as goal

pub invariant_of-self-in-None : goal.invariant_of-self-in-None
invariant_of-self-in-None g c =
    let i = c.self.inside in
    let j : Journaled ℕ = record {
      marks = i.marks;
      round = i.round;
      slots = i.slots;
      images = i.images.items;
      logged =
          i.logged.items;
      work = i.work;
    } in
    let none : cleared_slot i.work.stage ≡ None = sym c.in-None.ensures in
    rw c.done.ensures (done-kept (vec_capacity i.logged) j c.is_left.result none c.self.invariant)

pub returns-in-Some-clause-done : goal.returns-in-Some-clause-done
returns-in-Some-clause-done g c =
    let i = c.self.inside in
    let j : Journaled ℕ = record {
      marks = i.marks;
      round = i.round;
      slots = i.slots;
      images = i.images.items;
      logged =
          i.logged.items;
      work = i.work;
    } in
    let old = g.S.TagStore.now c.args.tags.now in
    let new = g.S.TagStore.now c.free.new.tags in
    let slot : cleared_slot i.work.stage ≡ Some c.in-Some.slot = sym c.in-Some.ensures in
    let within : c.in-Some.slot < length i.slots =
    omega (
      arith,
      cleared-used i.work (length (blocks_of i.round)) c.in-Some.slot slot c.self.invariant.work,
      c.self.invariant.used,
    ) in
    let covers : Covered (held_by j) old = subst (λ (k : Journaled ℕ). Covered (held_by k) old) (sym c.self.view_is)
    c.requires.uses in
    let work : c.done.new.self ≡ done_work (nat_lt 0 (length (blocks_of i.round))) i.work =
    c.done.ensures ∙ ap (λ (b : Bool). done_work b i.work) c.is_left.ensures in
    let done : seen new (record j { slots = c.free.new.self; work = c.done.new.self }) ≡ after_done (seen old j) =
    ap (λ (xs : List (Option ℕ)). seen new (record j { slots = xs; work = c.done.new.self })) c.free.ensures.places
    ∙ ap (λ (w : Work). seen new (record j { slots = set j.slots c.in-Some.slot None; work = w })) work
    ∙ clear-done old new j c.in-Some.slot slot within covers c.free.ensures.moved in
    subst
    (λ (k : Journaled ℕ). seen new (record j { slots = c.free.new.self; work = c.done.new.self })
    ≡ after_done (seen old k))
    c.self.view_is done

pub returns-in-None-clause-done : goal.returns-in-None-clause-done
returns-in-None-clause-done g c =
    let i = c.self.inside in
    let j : Journaled ℕ = record {
      marks = i.marks;
      round = i.round;
      slots = i.slots;
      images = i.images.items;
      logged =
          i.logged.items;
      work = i.work;
    } in
    let old = g.S.TagStore.now c.args.tags.now in
    let none : cleared_slot i.work.stage ≡ None = sym c.in-None.ensures in
    let work : c.done.new.self ≡ done_work (nat_lt 0 (length (blocks_of i.round))) i.work =
    c.done.ensures ∙ ap (λ (b : Bool). done_work b i.work) c.is_left.ensures in
    let done : seen old (record j { work = c.done.new.self }) ≡ after_done (seen old j) =
    ap (λ (w : Work). seen old (record j { work = w })) work ∙ other-done old j none in
    subst (λ (k : Journaled ℕ). seen old (record j { work = c.done.new.self }) ≡ after_done (seen old k)) c.self.view_is
    done
