-- The first page of the run has a block or not.
use Rattle.std.proofs.Common.{◌∙◌, ap, sym, subst, arith}
use Rattle.split_types.specs.FileMaps.{mapped_block}
use Rattle.split_types.specs.Writeback.{service, served_run}
use Rattle.split_types.specs.Serving.{service_state}
use Rattle.split_core.specs.StandsFor.{Simulation}
use Rattle.split_core.specs.Fits.{DropFits}
use Rattle.split_core.proofs.ServingReads.{served_is, file_kept, first_block_kept, serving_free, serving_placed}
use Rattle.split_core.proofs.machine.Core.next_of_serving.Goals as goal

pub map_of-requires-clause-live : goal.map_of-requires-clause-live
map_of-requires-clause-live c =
    let i = c.self.inside in
    let fits = subst (λ (v : Simulation). DropFits v.workload v.history c.args.slot c.args.run.serial)
    (sym c.self.view_is) c.requires.file in
    file_kept i.workload i.plan i.parts i.history.events c.args.slot c.args.run.serial c.self.invariant fits

pub map_of-requires-clause-page : goal.map_of-requires-clause-page
map_of-requires-clause-page c =
    let i = c.self.inside in
    let served = served_is i.workload i.plan i.parts i.history.events c.args.run c.self.invariant
    (ap (λ (v : Simulation). served_run (service v.history)) c.self.view_is ∙ ap served_run c.requires.serving) in
    omega (arith, served.some, served.within)

pub map_free-requires-clause-unplaced : goal.map_free-requires-clause-unplaced
map_free-requires-clause-unplaced c =
    let i = c.self.inside in
    let run = c.args.run in
    let fits = subst (λ (v : Simulation). DropFits v.workload v.history c.args.slot run.serial)
    (sym c.self.view_is) c.requires.file in
    let is = ap (λ (v : Simulation). served_run (service v.history)) c.self.view_is
    ∙ ap served_run c.requires.serving in
    sym (first_block_kept i.workload i.plan i.parts i.history.events c.args.slot run c.map_of.result c.self.invariant
    fits is c.map_of.ensures
    ∙ ap (λ (v : Simulation). mapped_block v.workload v.history run.serial.0 run.page) c.self.view_is)
    ∙ c.in-None.is

pub next_of_placed-requires-clause-within : goal.next_of_placed-requires-clause-within
next_of_placed-requires-clause-within c =
    let i = c.self.inside in
    (served_is i.workload i.plan i.parts i.history.events c.args.run c.self.invariant
    (ap (λ (v : Simulation). served_run (service v.history)) c.self.view_is ∙ ap served_run c.requires.serving)).within

pub returns-in-None : goal.returns-in-None
returns-in-None c =
    let i = c.self.inside in
    let run = c.args.run in
    let fits = subst (λ (v : Simulation). DropFits v.workload v.history c.args.slot run.serial)
    (sym c.self.view_is) c.requires.file in
    let is = ap (λ (v : Simulation). served_run (service v.history)) c.self.view_is
    ∙ ap served_run c.requires.serving in
    serving_free (service_state c.args.self.now.workload c.args.self.now.history run) c.map_free.result
    (sym c.in-None.is
    ∙ first_block_kept i.workload i.plan i.parts i.history.events c.args.slot run c.map_of.result c.self.invariant
    fits is c.map_of.ensures
    ∙ ap (λ (v : Simulation). mapped_block v.workload v.history run.serial.0 run.page) c.self.view_is)
    c.map_free.ensures

pub returns-in-Some : goal.returns-in-Some
returns-in-Some c =
    let i = c.self.inside in
    let run = c.args.run in
    let fits = subst (λ (v : Simulation). DropFits v.workload v.history c.args.slot run.serial)
    (sym c.self.view_is) c.requires.file in
    let is = ap (λ (v : Simulation). served_run (service v.history)) c.self.view_is
    ∙ ap served_run c.requires.serving in
    serving_placed (service_state c.args.self.now.workload c.args.self.now.history run) c.in-Some.block
    c.next_of_placed.result
    (sym c.in-Some.is
    ∙ first_block_kept i.workload i.plan i.parts i.history.events c.args.slot run c.map_of.result c.self.invariant
    fits is c.map_of.ensures
    ∙ ap (λ (v : Simulation). mapped_block v.workload v.history run.serial.0 run.page) c.self.view_is)
    c.next_of_placed.ensures
