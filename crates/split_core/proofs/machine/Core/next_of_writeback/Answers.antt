-- What comes next by the service, and by whether its file is there.
use Rattle.std.proofs.Common.{◌∙◌, option_map, ap, sym, subst}
use Rattle.split_types.specs.declared.ids.Slot.{Slot}
use Rattle.split_types.specs.Writeback.{service}
use Rattle.split_types.specs.Serving.{next_in_service, next_of_writeback}
use Rattle.split_core.specs.StandsFor.{Simulation}
use Rattle.split_core.specs.Fits.{DropFits}
use Rattle.split_core.specs.Served.{service_of}
use Rattle.split_core.proofs.ServingReads.{slot_kept, serving_skips, serving_goes, mapped_skips, mapped_goes}
use Rattle.split_core.proofs.machine.Core.next_of_writeback.Goals as goal

pub returns-in-Idle : goal.returns-in-Idle
returns-in-Idle c =
    let v = c.args.self.now in
    c.next_serve.ensures
    ∙ ap (next_in_service v.workload v.history) (ap service_of (sym c.in-Idle.is)
    ∙ c.self.invariant.parts.service.service_is
    ∙ ap (λ (x : Simulation). service x.history) c.self.view_is)

pub next_of_serving-requires-clause-serving : goal.next_of_serving-requires-clause-serving
next_of_serving-requires-clause-serving c =
    ap (λ (v : Simulation). service v.history) (sym c.self.view_is)
    ∙ sym c.self.invariant.parts.service.service_is ∙ ap service_of c.in-Serving.is

pub next_of_serving-requires-clause-file : goal.next_of_serving-requires-clause-file
next_of_serving-requires-clause-file c =
    let i = c.self.inside in
    subst (λ (v : Simulation). DropFits v.workload v.history c.in-Some.slot c.in-Serving.run'.serial) c.self.view_is
    (slot_kept i.workload i.plan i.parts i.history.events c.in-Serving.run'.serial c.in-Some.slot c.self.invariant
    (ap (option_map (λ (k : Slot). k.0)) (sym c.in-Some.is) ∙ c.slot_of.ensures.slot))

pub next_of_mapped-requires-clause-mapped : goal.next_of_mapped-requires-clause-mapped
next_of_mapped-requires-clause-mapped c =
    ap (λ (v : Simulation). service v.history) (sym c.self.view_is)
    ∙ sym c.self.invariant.parts.service.service_is ∙ ap service_of c.in-Mapped.is

pub next_of_mapped-requires-clause-file : goal.next_of_mapped-requires-clause-file
next_of_mapped-requires-clause-file c =
    let i = c.self.inside in
    subst (λ (v : Simulation). DropFits v.workload v.history c.in-Some-slot_of.slot c.in-Mapped.run'.serial)
    c.self.view_is
    (slot_kept i.workload i.plan i.parts i.history.events c.in-Mapped.run'.serial c.in-Some-slot_of.slot
    c.self.invariant
    (ap (option_map (λ (k : Slot). k.0)) (sym c.in-Some-slot_of.is) ∙ c.slot_of-in-Mapped.ensures.slot))

pub returns-in-None : goal.returns-in-None
returns-in-None c =
    let i = c.self.inside in
    serving_skips i.workload i.plan i.parts i.history.events c.in-Serving.run' c.self.invariant
    (sym c.self.invariant.parts.service.service_is ∙ ap service_of c.in-Serving.is)
    (ap (option_map (λ (k : Slot). k.0)) (sym c.in-None.is) ∙ c.slot_of.ensures.slot)
    ∙ ap (λ (v : Simulation). next_of_writeback v.workload v.history) c.self.view_is

pub returns-in-Some : goal.returns-in-Some
returns-in-Some c =
    let i = c.self.inside in
    let run = c.in-Serving.run' in
    serving_goes c.args.self.now.workload c.args.self.now.history c.in-Some.slot run c.next_of_serving.result
    (ap (λ (v : Simulation). service v.history) (sym c.self.view_is)
    ∙ sym c.self.invariant.parts.service.service_is ∙ ap service_of c.in-Serving.is)
    (subst (λ (v : Simulation). DropFits v.workload v.history c.in-Some.slot run.serial) c.self.view_is
    (slot_kept i.workload i.plan i.parts i.history.events run.serial c.in-Some.slot c.self.invariant
    (ap (option_map (λ (k : Slot). k.0)) (sym c.in-Some.is) ∙ c.slot_of.ensures.slot)))
    c.next_of_serving.ensures

pub returns-in-None-slot_of : goal.returns-in-None-slot_of
returns-in-None-slot_of c =
    let i = c.self.inside in
    mapped_skips i.workload i.plan i.parts i.history.events c.in-Mapped.run' c.self.invariant
    (sym c.self.invariant.parts.service.service_is ∙ ap service_of c.in-Mapped.is)
    (ap (option_map (λ (k : Slot). k.0)) (sym c.in-None-slot_of.is) ∙ c.slot_of-in-Mapped.ensures.slot)
    ∙ ap (λ (v : Simulation). next_of_writeback v.workload v.history) c.self.view_is

pub returns-in-Some-slot_of : goal.returns-in-Some-slot_of
returns-in-Some-slot_of c =
    let i = c.self.inside in
    let run = c.in-Mapped.run' in
    mapped_goes c.args.self.now.workload c.args.self.now.history c.in-Some-slot_of.slot run c.next_of_mapped.result
    (ap (λ (v : Simulation). service v.history) (sym c.self.view_is)
    ∙ sym c.self.invariant.parts.service.service_is ∙ ap service_of c.in-Mapped.is)
    (subst (λ (v : Simulation). DropFits v.workload v.history c.in-Some-slot_of.slot run.serial) c.self.view_is
    (slot_kept i.workload i.plan i.parts i.history.events run.serial c.in-Some-slot_of.slot c.self.invariant
    (ap (option_map (λ (k : Slot). k.0)) (sym c.in-Some-slot_of.is) ∙ c.slot_of-in-Mapped.ensures.slot)))
    c.next_of_mapped.ensures
