-- What comes next is read from the journal that is kept.
use Rattle.std.proofs.Common.{◌≡◌, ◌∙◌, ◌||◌, Bool, true, false, not, is_some, List, Option, Some, None, ap, sym, refl, arith}
use Rattle.std.specs.List.{list_all}
use Rattle.split_types.specs.declared.request.Run.{Run}
use Rattle.split_types.specs.declared.workload.Workload.{Workload}
use Rattle.split_types.specs.declared.event.Event.{Event}
use Rattle.split_types.specs.declared.event.Event.TheVariants.{Seal}
use Rattle.split_types.specs.Calls.{is_finished}
use Rattle.split_types.specs.Workloads.{processes}
use Rattle.split_types.specs.Writeback.{service}
use Rattle.split_types.specs.Committing.{next_of_commit}
use Rattle.split_types.proofs.Shared.{short, adds_most}
use Rattle.tag_table.specs.Tags.{tags_of}
use Rattle.journal_core.specs.Journaled.{seen, can_seal}
use Rattle.split_core.specs.declared.plan.Plan.{Plan}
use Rattle.split_core.specs.declared.parts.Parts.{Parts}
use Rattle.split_core.specs.Clients.{mapped_run}
use Rattle.split_core.specs.StandsFor.{Simulation, StandsFor}
use Rattle.split_core.proofs.JournalShown.{WorkShown}
use Rattle.split_core.proofs.JournalNotes.{shown, few_sealed}
use Rattle.split_core.proofs.JournalNotesNext.{next_adds, next_none, next_seals}
use Rattle.split_core.proofs.machine.Core.next_of_commit.Goals.{then-not-can_seal-via-then-not-can_seal, then-not-can_seal-via-else-not-can_seal+then-is_some}
use Rattle.split_core.proofs.machine.Core.next_of_commit.Goals as goal

work : (w : Workload) (plan : Plan) (p : Parts) (h : List Event) → StandsFor w plan p h
    → WorkShown w h (seen (tags_of p.tags) p.journaling.journal)
work w plan p h s = shown w h p.journaling (tags_of p.tags) s.accepted s.legal s.parts.journaling

pub overflow_cast-result : goal.overflow_cast-result
overflow_cast-result c =
    let i = c.self.inside in
    omega (
      arith,
      c.len.ensures,
      c.self.invariant.parts.book.added,
      adds_most i.history.events,
      short i.workload i.history.events c.self.invariant.accepted c.self.invariant.legal,
    )

pub returns-in-Some : goal.returns-in-Some
returns-in-Some c =
    let i = c.self.inside in
    next_adds i.workload i.history.events i.parts.journaling.journal (tags_of i.parts.tags) c.all_returned.result
    c.len.result c.in-Some.due (work i.workload i.plan i.parts i.history.events c.self.invariant)
    (c.all_returned.ensures
    ∙ ap (λ (v : Simulation). list_all (is_finished v.workload v.history) (processes v.workload)) (sym c.self.view_is))
    (omega (arith, c.len.ensures, c.self.invariant.parts.book.added)) (sym c.next_request.ensures ∙ c.in-Some.is)
    ∙ ap (λ (v : Simulation). next_of_commit v.workload v.history) c.self.view_is

-- a map waits besides
either : (a b : Bool) → b ≡ true → (a || b) ≡ true
either true b is = refl
either false b is = is

pub returns-then-not-can_seal : goal.returns-then-not-can_seal
returns-then-not-can_seal c =
    let i = c.self.inside in
    let j = i.parts.journaling.journal in
    let none : (o : Option Run) → o ≡ mapped_run (service c.args.self.now.history) → (not (can_seal j) || is_some o)
    ≡ true → (let nothing : Option Event = None in nothing) ≡ next_of_commit c.args.self.now.workload c.args.self.now.history =
    λ o run rests.
    next_none i.workload i.history.events j (tags_of i.parts.tags) c.all_returned.result o
    (work i.workload i.plan i.parts i.history.events c.self.invariant)
    (c.all_returned.ensures
    ∙ ap (λ (v : Simulation). list_all (is_finished v.workload v.history) (processes v.workload)) (sym c.self.view_is))
    (sym c.next_request.ensures ∙ c.in_default.is)
    (run ∙ ap (λ (v : Simulation). mapped_run (service v.history)) (sym c.self.view_is)) rests
    ∙ ap (λ (v : Simulation). next_of_commit v.workload v.history) c.self.view_is in
    elim c.then-not-can_seal.branch [
      | then-not-can_seal-via-then-not-can_seal v ↦
          none (mapped_run (service c.args.self.now.history)) refl
          (ap (λ b. not b || is_some (mapped_run (service c.args.self.now.history)))
          (sym c.can_seal.ensures ∙ v.if-not-can_seal.true))
      | then-not-can_seal-via-else-not-can_seal+then-is_some v ↦
          none v.mapped.result v.mapped.ensures
          (either (not (can_seal j)) (is_some v.mapped.result) (sym v.is_some.ensures ∙ v.if-is_some.true))
    ]

pub to_seal-k-requires : goal.to_seal-k-requires
to_seal-k-requires c =
    let i = c.self.inside in
    few_sealed i.workload i.history.events (seen (tags_of i.parts.tags) i.parts.journaling.journal)
    (work i.workload i.plan i.parts i.history.events c.self.invariant)
    (short i.workload i.history.events c.self.invariant.accepted c.self.invariant.legal)

pub returns : goal.returns
returns c =
    let i = c.self.inside in
    let j = i.parts.journaling.journal in
    let made = c.to_seal-k.ensures in
    ap (λ (r : _ × _). Some (Seal r.0 r.1)) made
    ∙ next_seals i.workload i.history.events j (tags_of i.parts.tags) c.all_returned.result c.mapped.result
    (work i.workload i.plan i.parts i.history.events c.self.invariant)
    (c.all_returned.ensures
    ∙ ap (λ (v : Simulation). list_all (is_finished v.workload v.history) (processes v.workload)) (sym c.self.view_is))
    (sym c.next_request.ensures ∙ c.in_default.is)
    (c.mapped.ensures ∙ ap (λ (v : Simulation). mapped_run (service v.history)) (sym c.self.view_is))
    (ap (λ b. not b || is_some c.mapped.result) (sym c.can_seal.ensures ∙ c.if-not-can_seal.false)
    ∙ (sym c.is_some.ensures ∙ c.if-is_some.false))
    ∙ ap (λ (v : Simulation). next_of_commit v.workload v.history) c.self.view_is
