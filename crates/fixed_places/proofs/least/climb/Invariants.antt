use Rattle.std.proofs.Common.{◌≡◌, ◌-◌, ◌*◌, ◌/◌, ◌<◌, length, drop, set}
use Rattle.fixed_places.specs.Tree.{AreNodesBut, IsNode}
use Rattle.fixed_places.proofs.least.climb.Given as goal

-- all but the node above are nodes, and the leaves stay
abbrev pub invariant-loop-at : goal.invariant-loop-at
invariant-loop-at g l = record {
  first : 0 < l.at;
  last : l.at < 2 * l.places;
  len : length l.nodes.items ≡ 2 * l.places;
  leaves : drop l.places l.nodes.items ≡ drop l.places l.initial.nodes.items;
  others : AreNodesBut g.K.Ord.cmp l.nodes.items l.places (l.at / 2);
  parent : 1 < l.at → IsNode g.K.Ord.cmp (set l.nodes.items l.at l.was) (l.at / 2);
}

abbrev pub decreases-loop-at : goal.decreases-loop-at
decreases-loop-at g l = l.at - 1
