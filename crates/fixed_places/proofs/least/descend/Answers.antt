use Rattle.std.proofs.Common.{◌≡◌, ◌+◌, ◌*◌, get_or, None, arith}
use Rattle.std.proofs.lemmas.Grind.{common_steps}
use Rattle.fixed_places.proofs.TreeLaws.{left_reaches, right_reaches}
use Rattle.fixed_places.proofs.least.descend.Goals as goal

pub loop-at-preserved-then-is_less : goal.loop-at-preserved-then-is_less
loop-at-preserved-then-is_less g c =
    let nodes = c.args.nodes.now in
    let at = c.loop-at.at in
    let right : c.index-nodes-at.result ≡ get_or nodes (2 * at + 1) None = grind (arith, common_steps) in
    let left : c.index-nodes-at-in-loop-at.result ≡ get_or nodes (2 * at) None = grind (arith, common_steps) in
    let less = rw (right, left) at c.if-is_less.ensures in
    record {
      first = omega arith;
      last = omega arith;
      reaches = right_reaches g.K.Ord.cmp g.met.K.Ord.total (get_or nodes at None) _ _ _
          (c.requires.node at c.loop-at.invariant.first c.loop-at-test.true) less.order c.loop-at.invariant.reaches;
    }

pub loop-at-preserved : goal.loop-at-preserved
loop-at-preserved g c =
    let nodes = c.args.nodes.now in
    let at = c.loop-at.at in
    let right : c.index-nodes-at.result ≡ get_or nodes (2 * at + 1) None = grind (arith, common_steps) in
    let left : c.index-nodes-at-in-loop-at.result ≡ get_or nodes (2 * at) None = grind (arith, common_steps) in
    let less = rw (right, left) at c.if-is_less.ensures in
    record {
      first = omega arith;
      last = omega arith;
      reaches = left_reaches g.K.Ord.cmp g.met.K.Ord.total (get_or nodes at None) _ _ _
          (c.requires.node at c.loop-at.invariant.first c.loop-at-test.true) less.order c.loop-at.invariant.reaches;
    }
