-- What is kept of a commit's data says whether it is done.
use Rattle.std.proofs.Common.{◌==◌, ◌||◌, not, refl, ap, ◌∙◌}
use Rattle.split_core.specs.Dispatch.{commits_first, is_ordered_done}
use Rattle.split_core.specs.StandsFor.{Simulation}
use Rattle.split_core.proofs.OrderedNotesPicks.{ordered_is}
use Rattle.split_core.proofs.machine.Core.sched_view.Goals as goal

pub returns : goal.returns
returns c =
    let i = c.self.inside in
    let kept = c.self.invariant.parts.dispatch in
    record {
      stopped = refl;
      ordered =
          c.is_ordered_done.ensures
          ∙ ap (λ l. i.parts.dispatch.ordered.left == 0 || not (commits_first l)) kept.queued_are
          ∙ ordered_is i.workload i.history.events i.parts.dispatch.ordered c.self.invariant.accepted
          c.self.invariant.legal kept.ordered
          ∙ ap (λ (v : Simulation). is_ordered_done v.history) c.self.view_is;
    }
