use Rattle.std.proofs.Common.{ap, ◌∙◌, ◌∷◌}
use Rattle.hook_events.proofs.Packs.{one-more}
use Rattle.hook_events.proofs.history.History.keep.Goals as goal

pub returns-clause-events : goal.returns-clause-events
returns-clause-events c =
    let i = c.self.inside in
    rw c.push_reserved.ensures.items
    (one-more i.packed.items c.packed-packed.result i.whole.items c.packed-packed.new.whole.items c.args.e
    c.self.invariant.0 c.packed-packed.ensures.kept c.packed-packed.ensures.event
    ∙ ap (λ l. c.args.e ∷ l.events) c.self.view_is)
