-- All calls have returned where all processes have finished.
use Rattle.std.proofs.Common.{◌∙◌, ◌==◌, ap}
use Rattle.std.specs.List.{list_all}
use Rattle.split_types.specs.Calls.{is_finished}
use Rattle.split_types.specs.Workloads.{processes}
use Rattle.split_core.specs.StandsFor.{Simulation}
use Rattle.split_core.proofs.DrainReads.{returned_is}
use Rattle.split_core.proofs.machine.Core.all_returned.Goals as goal

pub returns : goal.returns
returns c =
    let i = c.self.inside in
    ap (λ n. i.parts.clients.finished == n) c.len.ensures
    ∙ returned_is i.workload i.parts.clients i.history.events c.self.invariant.parts.clients
    ∙ ap (λ (v : Simulation). list_all (is_finished v.workload v.history) (processes v.workload)) c.self.view_is
