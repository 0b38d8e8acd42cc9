-- A file is there where it has a slot.
use Rattle.std.proofs.Common.{ap, sym, ◌∙◌}
use Rattle.std.specs.Prelude.{is_some}
use Rattle.split_types.specs.FileSizes.{if_live}
use Rattle.split_types.proofs.Shared.{files_are_in_order}
use Rattle.split_core.specs.StandsFor.{Simulation}
use Rattle.split_core.proofs.ClientViewsFiles.{there_is}
use Rattle.split_core.proofs.machine.Core.is_there.Goals as goal

pub returns-in-Some : goal.returns-in-Some
returns-in-Some c =
    let i = c.self.inside in
    let s = c.in-Some.serial in
    c.is_some.ensures
    ∙ there_is i.workload i.history.events i.parts.filing.fs s c.slot_of.result
    (files_are_in_order i.workload i.history.events c.self.invariant.accepted c.self.invariant.legal)
    c.self.invariant.parts.filing.files c.slot_of.ensures.slot
    ∙ ap (λ o. is_some (if_live i.workload i.history.events o)) (sym c.in-Some.is)
    ∙ ap (λ (v : Simulation). is_some (if_live v.workload v.history c.args.file)) c.self.view_is
