-- The processes are asked first, and then the other actors.
use Rattle.std.proofs.Common.{◌≡◌, ◌∙◌, sym, ap, subst, Some, None}
use Rattle.split_types.specs.Legal.{first_next}
use Rattle.split_core.specs.StandsFor.{Simulation}
use Rattle.split_core.specs.Steps.{clients_from, others, FirstStepsTo, Appends}
use Rattle.split_core.proofs.TurnNotes.{asks, first_comes, clients_turn, others_turn, none_drained}
use Rattle.split_core.proofs.machine.Core.act_first.Goals as goal

pub returns-in-Made-clause-ok : goal.returns-in-Made-clause-ok
returns-in-Made-clause-ok c =
    let i = c.self.inside in
    let v = c.args.self.now in
    let made = subst (FirstStepsTo (clients_from v.workload i.parts.clients.finished) v c.act_of_clients.new.self)
    c.in-Made.is c.in_ok-place.ensures.ok in (
      made.0,
      clients_turn v made.0 c.requires
          (asks i.workload i.plan i.parts i.history.events v (Some made.0) c.self.invariant c.self.view_is
          (sym made.1)),
      made.2,
    )

pub make-requires : goal.make-requires
make-requires c =
    let v = c.act_of_clients.new.self in
    first_comes v.workload v.history others c.in-Some.e (sym c.first_of_others.ensures ∙ c.in-Some.is)

pub returns-in-None-clause-ok : goal.returns-in-None-clause-ok
returns-in-None-clause-ok c =
    let i = c.self.inside in
    let v = c.args.self.now in
    let idle : (first_next v.workload v.history (clients_from v.workload i.parts.clients.finished) ≡ None)
    × (c.act_of_clients.new.self ≡ v) =
    subst (FirstStepsTo (clients_from v.workload i.parts.clients.finished) v c.act_of_clients.new.self)
    c.in_default.is c.in_ok-place.ensures.ok in (
      none_drained v (asks i.workload i.plan i.parts i.history.events v None c.self.invariant c.self.view_is
          (sym idle.0))
          (sym (ap (λ (s : Simulation). first_next s.workload s.history others) idle.1) ∙ sym c.first_of_others.ensures
          ∙ c.in-None.is),
      idle.1,
    )

pub returns-in_ok-make-in-Some-clause-ok : goal.returns-in_ok-make-in-Some-clause-ok
returns-in_ok-make-in-Some-clause-ok c =
    let i = c.self.inside in
    let v = c.args.self.now in
    let idle : (first_next v.workload v.history (clients_from v.workload i.parts.clients.finished) ≡ None)
    × (c.act_of_clients.new.self ≡ v) =
    subst (FirstStepsTo (clients_from v.workload i.parts.clients.finished) v c.act_of_clients.new.self)
    c.in_default.is c.in_ok-place.ensures.ok in (
      c.in-Some.e,
      others_turn v c.in-Some.e c.requires (asks i.workload i.plan i.parts i.history.events v None c.self.invariant
          c.self.view_is (sym idle.0))
          (sym (ap (λ (s : Simulation). first_next s.workload s.history others) idle.1) ∙ sym c.first_of_others.ensures
          ∙ c.in-Some.is),
      subst (λ (s : Simulation). Appends s c.make.new.self c.in-Some.e c.in_ok-make-in-Some.field-0) idle.1
          c.in_ok-make-in-Some.ensures.ok,
    )
