use Rattle.std.proofs.Common.{◌≡◌, ◌≤◌, length}
use Rattle.split_types.specs.History.{older}
use Rattle.split_types.specs.Parents.{last_serve}
use Rattle.provenance.proofs.walk.last_serve.Given as goal

abbrev pub invariant-loop-rest : goal.invariant-loop-rest
invariant-loop-rest g l = (l.rest ≤ l.count) × ((l.count ≤ length l.h.events)
    × (last_serve (older l.h.events l.rest) ≡ last_serve (older l.h.events l.count)))

abbrev pub decreases-loop-rest : goal.decreases-loop-rest
decreases-loop-rest g l = l.rest
