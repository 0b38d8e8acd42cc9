use Rattle.std.proofs.Common.{◌≡◌, Option, Some, None, IfSome, IfNone}
use Rattle.fixed_places.specs.Recency.{IsOldest, NoCandidate}
use Rattle.fixed_places.proofs.RecencyLaws.{none-oldest, is-oldest, if_none-as, if_some-as}
use Rattle.fixed_places.proofs.recency.Recency.oldest.Goals as goal

pub returns-clause-none : goal.returns-clause-none
returns-clause-none c =
    rw (← c.self.view_is)
    (if_none-as c.least.result _ _ c.least.ensures.none
    (none-oldest c.self.inside.touches.items c.self.inside.candidates))

pub returns-clause-oldest : goal.returns-clause-oldest
returns-clause-oldest c =
    rw (← c.self.view_is)
    (if_some-as c.least.result _ _ c.least.ensures.least
    (λ at. is-oldest c.self.inside.touches.items c.self.inside.others.items c.self.inside.next c.self.inside.candidates
    at c.self.invariant))
