use Rattle.std.proofs.Common.{◌-◌, ◌*◌, ◌<◌, None, slice_index_or}
use Rattle.fixed_places.specs.Tree.{Before}
use Rattle.fixed_places.proofs.least.descend.Given as goal

-- the key of the root is reached from the node
abbrev pub invariant-loop-at : goal.invariant-loop-at
invariant-loop-at g l = record {
  first : 0 < l.at;
  last : l.at < 2 * l.places;
  reaches : Before g.K.Ord.cmp (slice_index_or l.nodes l.at None) (slice_index_or l.nodes 1 None);
}

abbrev pub decreases-loop-at : goal.decreases-loop-at
decreases-loop-at g l = l.places - l.at
