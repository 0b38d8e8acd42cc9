-- The sets are those of the table.
use Rattle.std.proofs.Common.{◌∙◌, ap}
use Rattle.split_types.specs.LiveSets.{live_sets}
use Rattle.split_core.specs.StandsFor.{Simulation}
use Rattle.split_core.proofs.SetsHeld.{sets_are}
use Rattle.split_core.proofs.machine.Core.sets.Goals as goal

pub returns : goal.returns
returns c =
    let i = c.self.inside in
    sets_are i.workload i.plan i.parts i.history.events c.self.invariant c.sets.result c.sets.ensures.count
    c.sets.ensures.shared
    ∙ ap (λ (v : Simulation). live_sets v.history) c.self.view_is
