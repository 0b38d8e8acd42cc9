use Rattle.std.proofs.Common.{Some, ap, sym, ◌∙◌}
use Rattle.split_types.specs.History.{event_at}
use Rattle.happy_paths.proofs.Added.{added}
use Rattle.happy_paths.proofs.tests.machine.adds_at.Goals as goal

pub returns-in-Add : goal.returns-in-Add
returns-in-Add g c = λ yes.
    added c.args.core.now.history c.args.place c.in-Add.by c.in-Add.req
    (ap (λ h. event_at h c.args.place) (sym c.history-2.ensures.events) ∙ c.at.ensures.event ∙ ap Some c.in-Add.is)
