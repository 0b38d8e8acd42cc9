use Rattle.std.proofs.Common.{◌≡◌, ◌+◌, ◌*◌, ◌/◌, ◌<◌, ◌∙◌, length, get_or, None, arith, inl, inr}
use Rattle.std.proofs.lemmas.Bool.{cases_eq}
use Rattle.std.proofs.lemmas.List.{get_or_default}
use Rattle.fixed_places.specs.Tree.{IsNode}
use Rattle.fixed_places.proofs.TreeLaws.{node_settled}
use Rattle.fixed_places.proofs.least.climb.Goals as goal

pub returns-else-not-is_settled-clause-tree : goal.returns-else-not-is_settled-clause-tree
returns-else-not-is_settled-clause-tree g c =
    let l = c.loop-at in
    let nodes = l.nodes.items in
    let other = c.sibling.result in
    let inside : l.at < length nodes = omega (arith, l.invariant.last, l.invariant.len) in
    let beside : other < length nodes =
    elim c.sibling.ensures.side [
      | inl e ↦ omega (arith, e.0, e.1, l.invariant.last, l.invariant.len)
      | inr e ↦ omega (arith, e.0, e.1, l.invariant.last, l.invariant.len)
    ] in
    let now : c.index.result.now ≡ get_or nodes l.at None = c.index.ensures
    ∙ get_or_default nodes l.at c.index.result.now None inside in
    let there : c.index-in-loop-at.result.now ≡ get_or nodes other None = c.index-in-loop-at.ensures
    ∙ get_or_default nodes other c.index-in-loop-at.result.now None beside in
    let left = rw (now, there) at c.is_settled.ensures.left c.if-not-is_settled.false in
    let right = rw (now, there) at c.is_settled.ensures.right c.if-not-is_settled.false in
    let parent : IsNode g.K.Ord.cmp nodes (l.at / 2) =
    node_settled g.K.Ord.cmp nodes c.args.places l.at other l.was c.loop-at-test.true l.invariant.last l.invariant.len
    c.sibling.ensures (l.invariant.parent c.loop-at-test.true) left right in
    record {
      some = c.requires.some;
      few = c.requires.few;
      len = l.invariant.len;
      node = λ i first last.
          elim (cases_eq i (l.at / 2)) [
            | inl here ↦ rw here parent
            | inr apart ↦ l.invariant.others i first last apart
          ];
    }
