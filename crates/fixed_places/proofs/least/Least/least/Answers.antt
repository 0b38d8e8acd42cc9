use Rattle.std.proofs.Common.{◌≡◌, ◌+◌, ◌-◌, ◌∙◌, arith, refl, drop, get_or, Some, None}
use Rattle.std.proofs.lemmas.List.{get_or-drop, length-drop}
use Rattle.std.proofs.lemmas.Grind.{common_steps}
use Rattle.fixed_places.specs.Tree.{Before}
use Rattle.fixed_places.proofs.TreeLaws.{root_least, before-trans, none_below, some_below}
use Rattle.fixed_places.proofs.least.Least.least.Goals as goal

pub returns-in-None-clause-none : goal.returns-in-None-clause-none
returns-in-None-clause-none g c =
    let root : get_or c.self.inside.nodes.items 1 None ≡ None = grind (arith, common_steps) in
    rw (← c.self.view_is)
    (λ i. none_below g.K.Ord.cmp _ _ root (root_least g.K.Ord.cmp g.met.K.Ord.total c.self.inside.nodes.items
    c.self.inside.places c.self.invariant i))

pub returns-in-Some-clause-least : goal.returns-in-Some-clause-least
returns-in-Some-clause-least g c =
    let nodes = c.self.inside.nodes.items in
    let places = c.self.inside.places in
    let leaf = c.descend.result in
    let root : get_or nodes 1 None ≡ Some c.in-Some.field-0 = grind (arith, common_steps) in
    let key : Before g.K.Ord.cmp (get_or nodes leaf None) (get_or nodes 1 None) =
    rw (← c.deref.ensures.value) c.descend.ensures.key in
    let at : places + (leaf - places) ≡ leaf = omega (arith, c.descend.ensures.leaf) in
    let here : get_or (drop places nodes) (leaf - places) None ≡ get_or nodes leaf None =
    get_or-drop places nodes (leaf - places) None ∙ rw at refl in
    rw (← c.self.view_is)
    (record {
      within = omega (
        arith,
        length-drop places nodes,
        c.self.invariant.len,
        c.descend.ensures.leaf,
        c.descend.ensures.within,
      );
      some = rw here (some_below g.K.Ord.cmp _ _ _ root key);
      least = λ i. rw here (before-trans g.K.Ord.cmp g.met.K.Ord.total _ _ _ key
          (root_least g.K.Ord.cmp g.met.K.Ord.total nodes places c.self.invariant i));
    })
