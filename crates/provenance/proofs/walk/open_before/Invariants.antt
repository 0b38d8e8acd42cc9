use Rattle.std.proofs.Common.{◌≡◌, ◌≤◌, ◌++◌, length}
use Rattle.split_types.specs.History.{older}
use Rattle.split_types.specs.OpenDirtyings.{open_at}
use Rattle.provenance.specs.Targets.{buffer_of}
use Rattle.provenance.proofs.walk.open_before.Given as goal

abbrev pub invariant-loop-rest : goal.invariant-loop-rest
invariant-loop-rest g l = (l.rest ≤ l.count) × ((l.count ≤ length l.h.events)
    × (l.places ++ open_at (older l.h.events l.rest) (buffer_of l.target) ≡ l.initial.places
    ++ open_at (older l.h.events l.count) (buffer_of l.target)))

abbrev pub decreases-loop-rest : goal.decreases-loop-rest
decreases-loop-rest g l = l.rest
