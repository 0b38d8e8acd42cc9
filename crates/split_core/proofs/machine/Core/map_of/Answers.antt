-- The sizes are those of the run's file.
use Rattle.std.proofs.Common.{◌∙◌, ap, sym, subst}
use Rattle.split_types.specs.Serving.{service_state, map_of}
use Rattle.split_core.specs.StandsFor.{Simulation}
use Rattle.split_core.specs.Fits.{DropFits}
use Rattle.split_core.proofs.ServingReads.{file_kept, size_kept, disk_size_kept, end_is, map_is}
use Rattle.split_core.proofs.machine.Core.map_of.Goals as goal

pub size_of-requires : goal.size_of-requires
size_of-requires c =
    let i = c.self.inside in
    let fits = subst (λ (v : Simulation). DropFits v.workload v.history c.args.slot c.args.run.serial)
    (sym c.self.view_is) c.requires.file in
    file_kept i.workload i.plan i.parts i.history.events c.args.slot c.args.run.serial c.self.invariant fits

pub disk_size_of-requires : goal.disk_size_of-requires
disk_size_of-requires c =
    let i = c.self.inside in
    let fits = subst (λ (v : Simulation). DropFits v.workload v.history c.args.slot c.args.run.serial)
    (sym c.self.view_is) c.requires.file in
    file_kept i.workload i.plan i.parts i.history.events c.args.slot c.args.run.serial c.self.invariant fits

pub returns : goal.returns
returns c =
    let i = c.self.inside in
    let w = i.workload in
    let h = i.history.events in
    let run = c.args.run in
    let fits = subst (λ (v : Simulation). DropFits v.workload v.history c.args.slot run.serial)
    (sym c.self.view_is) c.requires.file in
    map_is w h c.args.slot run c.args.n c.args.block c.args.new c.min-end.result c.disk_size_of.result c.max.result fits
    (end_is w h run c.args.n c.size_of.result c.min-end.result
    (size_kept w i.plan i.parts h c.args.slot run.serial c.self.invariant fits c.size_of.result c.size_of.ensures)
    c.min-end.ensures)
    (disk_size_kept w i.plan i.parts h c.args.slot run.serial c.self.invariant fits c.disk_size_of.result
    c.disk_size_of.ensures)
    c.max.ensures
    ∙ ap (λ (v : Simulation). map_of (service_state v.workload v.history run) c.args.n c.args.block c.args.new)
    c.self.view_is
