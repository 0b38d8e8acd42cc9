use Rattle.std.proofs.Common.{◌≡◌, ◌≤◌, length}
use Rattle.split_types.specs.History.{older}
use Rattle.split_types.specs.Rounds.{seal_place}
use Rattle.provenance.proofs.walk.seal_place.Given as goal

abbrev pub invariant-loop-rest : goal.invariant-loop-rest
invariant-loop-rest g l =
    (l.rest ≤ l.count) × ((l.count ≤ length l.h.events)
    × (seal_place (older l.h.events l.rest) l.t ≡ seal_place (older l.h.events l.count) l.t))

abbrev pub decreases-loop-rest : goal.decreases-loop-rest
decreases-loop-rest g l = l.rest
