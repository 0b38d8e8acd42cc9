use Rattle.std.proofs.Common.{◌≡◌, map}
use Rattle.std.specs.List.{flat_map, range_with_len}
use Rattle.split_types.specs.History.{older}
use Rattle.split_types.specs.OpenDirtyings.{open_at}
use Rattle.split_types.specs.Parents.{buffer_at}
use Rattle.provenance.proofs.parentage.open_metadata.Given as goal

abbrev pub invariant-loop-k : goal.invariant-loop-k
invariant-loop-k g l = l.places ≡ flat_map (open_at (older l.h.events l.count)) (map buffer_at (range_with_len 1 l.k))
