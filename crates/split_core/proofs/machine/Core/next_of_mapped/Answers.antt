-- The first page of the run has a block.
use Rattle.std.proofs.Common.{◌∙◌, Some, None, ap, sym, subst, arith}
use Rattle.split_types.specs.FileMaps.{mapped_block}
use Rattle.split_types.specs.Writeback.{service, served_run}
use Rattle.split_types.specs.Serving.{service_state}
use Rattle.split_core.specs.StandsFor.{Simulation}
use Rattle.split_core.specs.Fits.{DropFits}
use Rattle.split_core.proofs.ServingReads.{served_is, file_kept, first_block_kept, mapped_none, mapped_some}
use Rattle.split_core.proofs.machine.Core.next_of_mapped.Goals as goal

pub map_of-requires-clause-live : goal.map_of-requires-clause-live
map_of-requires-clause-live c =
    let i = c.self.inside in
    let fits = subst (λ (v : Simulation). DropFits v.workload v.history c.args.slot c.args.run.serial)
    (sym c.self.view_is) c.requires.file in
    file_kept i.workload i.plan i.parts i.history.events c.args.slot c.args.run.serial c.self.invariant fits

pub map_of-requires-clause-page : goal.map_of-requires-clause-page
map_of-requires-clause-page c =
    let i = c.self.inside in
    let served = served_is i.workload i.plan i.parts i.history.events c.args.run c.self.invariant
    (ap (λ (v : Simulation). served_run (service v.history)) c.self.view_is ∙ ap served_run c.requires.mapped) in
    omega (arith, served.some, served.within)

pub returns-in_err-block : goal.returns-in_err-block
returns-in_err-block c =
    let i = c.self.inside in
    let run = c.args.run in
    let fits = subst (λ (v : Simulation). DropFits v.workload v.history c.args.slot run.serial)
    (sym c.self.view_is) c.requires.file in
    let is = ap (λ (v : Simulation). served_run (service v.history)) c.self.view_is
    ∙ ap served_run c.requires.mapped in
    c.from_residual.ensures
    ∙ mapped_none (service_state c.args.self.now.workload c.args.self.now.history run)
    (first_block_kept i.workload i.plan i.parts i.history.events c.args.slot run None c.self.invariant
    fits is c.in_err-block.ensures
    ∙ ap (λ (v : Simulation). mapped_block v.workload v.history run.serial.0 run.page) c.self.view_is)

pub returns : goal.returns
returns c =
    let i = c.self.inside in
    let run = c.args.run in
    let fits = subst (λ (v : Simulation). DropFits v.workload v.history c.args.slot run.serial)
    (sym c.self.view_is) c.requires.file in
    let is = ap (λ (v : Simulation). served_run (service v.history)) c.self.view_is
    ∙ ap served_run c.requires.mapped in
    mapped_some (service_state c.args.self.now.workload c.args.self.now.history run) c.in_ok-block.block
    c.add_of.result
    (first_block_kept i.workload i.plan i.parts i.history.events c.args.slot run (Some c.in_ok-block.block)
    c.self.invariant fits is c.in_ok-block.ensures
    ∙ ap (λ (v : Simulation). mapped_block v.workload v.history run.serial.0 run.page) c.self.view_is)
    c.add_of.ensures
