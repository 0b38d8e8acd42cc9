use Rattle.std.proofs.Common.{◌≡◌, take, map}
use Rattle.std.specs.List.{flat_map}
use Rattle.split_types.specs.OpenDirtyings.{open_at}
use Rattle.split_types.specs.Parents.{buffer_at}
use Rattle.provenance.proofs.RoundWalks.{seals_at}
use Rattle.provenance.proofs.parentage.open_in_round.Given as goal

abbrev pub invariant-loop-seal : goal.invariant-loop-seal
invariant-loop-seal g l =
    l.places ≡ flat_map (λ seal. open_at seal.before (buffer_at l.block))
    (seals_at l.fn.h.events (take l.seal-index l.seal-items))
