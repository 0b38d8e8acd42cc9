use Rattle.std.proofs.Common.{◌≡◌}
use Rattle.std.specs.List.{flat_map}
use Rattle.split_types.specs.History.{older}
use Rattle.split_types.specs.OpenDirtyings.{open_at}
use Rattle.split_types.specs.Parents.{pages_of}
use Rattle.provenance.proofs.parentage.open_pages.Given as goal

abbrev pub invariant-loop-k : goal.invariant-loop-k
invariant-loop-k g l = l.places ≡ flat_map (open_at (older l.h.events l.count)) (pages_of l.serial l.page l.k)
