-- The inode says all bytes of the run, or it doesn't yet.
use Rattle.std.proofs.Common.{◌∙◌, false, ap, sym, subst, arith}
use Rattle.split_types.specs.Serving.{service_state, next_of_placed, map_of, add_of}
use Rattle.split_core.specs.StandsFor.{Simulation}
use Rattle.split_core.specs.Fits.{DropFits}
use Rattle.split_core.proofs.ServingReads.{file_kept, size_kept, disk_size_kept, end_is, placed_short, placed_long}
use Rattle.split_core.proofs.machine.Core.next_of_placed.Goals as goal

pub size_of-requires : goal.size_of-requires
size_of-requires c =
    let i = c.self.inside in
    let fits = subst (λ (v : Simulation). DropFits v.workload v.history c.args.slot c.args.run.serial)
    (sym c.self.view_is) c.requires.file in
    file_kept i.workload i.plan i.parts i.history.events c.args.slot c.args.run.serial c.self.invariant fits

pub disk_size_of-requires : goal.disk_size_of-requires
disk_size_of-requires c =
    let i = c.self.inside in
    let fits = subst (λ (v : Simulation). DropFits v.workload v.history c.args.slot c.args.run.serial)
    (sym c.self.view_is) c.requires.file in
    file_kept i.workload i.plan i.parts i.history.events c.args.slot c.args.run.serial c.self.invariant fits

pub returns-then-disk_size_of-end : goal.returns-then-disk_size_of-end
returns-then-disk_size_of-end c =
    let i = c.self.inside in
    let w = i.workload in
    let h = i.history.events in
    let run = c.args.run in
    let fits = subst (λ (v : Simulation). DropFits v.workload v.history c.args.slot run.serial)
    (sym c.self.view_is) c.requires.file in
    sym (ap (λ (v : Simulation). next_of_placed (service_state v.workload v.history run) c.args.block) c.self.view_is)
    ∙ placed_short w h run c.args.block c.min-end.result c.disk_size_of.result c.map_of.result
    (end_is w h run run.n c.size_of.result c.min-end.result
    (size_kept w i.plan i.parts h c.args.slot run.serial c.self.invariant fits c.size_of.result c.size_of.ensures)
    c.min-end.ensures)
    (disk_size_kept w i.plan i.parts h c.args.slot run.serial c.self.invariant fits c.disk_size_of.result
    c.disk_size_of.ensures)
    (omega (arith, c.if-disk_size_of-end.true))
    (c.map_of.ensures
    ∙ sym (ap (λ (v : Simulation). map_of (service_state v.workload v.history run) run.n c.args.block false)
    c.self.view_is))

pub returns-else-disk_size_of-end : goal.returns-else-disk_size_of-end
returns-else-disk_size_of-end c =
    let i = c.self.inside in
    let w = i.workload in
    let h = i.history.events in
    let run = c.args.run in
    let fits = subst (λ (v : Simulation). DropFits v.workload v.history c.args.slot run.serial)
    (sym c.self.view_is) c.requires.file in
    sym (ap (λ (v : Simulation). next_of_placed (service_state v.workload v.history run) c.args.block) c.self.view_is)
    ∙ placed_long w h run c.args.block c.min-end.result c.disk_size_of.result c.add_of.result
    (end_is w h run run.n c.size_of.result c.min-end.result
    (size_kept w i.plan i.parts h c.args.slot run.serial c.self.invariant fits c.size_of.result c.size_of.ensures)
    c.min-end.ensures)
    (disk_size_kept w i.plan i.parts h c.args.slot run.serial c.self.invariant fits c.disk_size_of.result
    c.disk_size_of.ensures)
    (omega (arith, c.if-disk_size_of-end.false))
    (c.add_of.ensures
    ∙ sym (ap (λ (v : Simulation). add_of (service_state v.workload v.history run) c.args.block) c.self.view_is))
