-- What holds of a tree of least keys.
use Rattle.std.proofs.Common.{◌≡◌, ◌≢◌, ℕ, zero, suc, ◌+◌, ◌*◌, ◌/◌, ◌<◌, ◌≤◌, List, length, get_or, set, drop, Option, Some, None, IsSome, arith, refl, ap, sym, ◌∙◌, subst, inl, inr, get_or-set_other, get_or-set_same}
use Rattle.std.specs.declared.cmp.Ordering.{Ordering}
use Rattle.std.specs.Cmp.{IsTotalOrder}
use Rattle.std.proofs.lemmas.Bool.{cases_eq}
use Rattle.std.proofs.lemmas.Cmp.{tied_itself, upto}
use Rattle.std.proofs.lemmas.List.{get_or-drop, get_or_past, set-set, set-get_or}
use Rattle.std.proofs.lemmas.Bool.{cases_lt}
use Rattle.fixed_places.specs.Tree.{Before, IsLesser, IsNode, IsSibling, AreNodesBut, IsTree}

module _ {K : Type 0} (R : K → K → Ordering) where
  pub before-same : IsTotalOrder R → (a : Option K) → Before R a a
  before-same o None = tt
  before-same o (Some x) = rw (tied_itself o x) refl

  pub before-trans : IsTotalOrder R → (a b c : Option K) → Before R a b → Before R b c → Before R a c
  before-trans o a b None h k = tt
  before-trans o None None (Some z) h k = k
  before-trans o (Some x) None (Some z) h k = absurd k
  before-trans o None (Some y) (Some z) h k = absurd h
  before-trans o (Some x) (Some y) (Some z) h k = upto o x y z h k

  -- the node at a place is made the lesser of its children: then all but its parent are nodes
  pub node_made : (xs : List (Option K)) (places at : ℕ) (v : Option K) → 0 < at → at < places → length xs ≡ 2 * places
      → IsLesser R v (get_or xs (2 * at) None) (get_or xs (2 * at + 1) None) → AreNodesBut R xs places at
      → AreNodesBut R (set xs at v) places (at / 2)
  node_made xs places at v some within len lesser others i first last apart =
      elim (cases_eq i at) [
        | inl here ↦
            let l : 2 * i ≢ at = omega (arith, here) in
            let r : 2 * i + 1 ≢ at = omega (arith, here) in
            let inside : at < length xs = omega arith in
            rw (get_or-set_other xs at (2 * i) v None l, get_or-set_other xs at (2 * i + 1) v None r)
            (rw here (rw (get_or-set_same xs at v None inside) lesser))
        | inr other ↦
            let l : 2 * i ≢ at = omega (arith, apart) in
            let r : 2 * i + 1 ≢ at = omega (arith, apart) in
            rw (
              get_or-set_other xs at (2 * i) v None l,
              get_or-set_other xs at (2 * i + 1) v None r,
              get_or-set_other xs at i v None other,
            )
            (others i first last other)
      ]

  -- the parent of a node that was given another key was a node with the key before
  pub node_before : (xs : List (Option K)) (places at : ℕ) (v was : Option K) → 1 < at → at < 2 * places
      → was ≡ get_or xs at None → AreNodesBut R xs places at
      → IsNode R (set (set xs at v) at was) (at / 2)
  node_before xs places at v was some within is others =
      let same : set (set xs at v) at was ≡ xs = set-set xs at v was ∙ ap (set xs at) is ∙ set-get_or xs at None in
      rw same (others (at / 2) (omega (arith, some)) (omega (arith, within)) (omega (arith, some)))

  -- a parent that is settled stays a node
  pub node_settled : (xs : List (Option K)) (places at other : ℕ) (was : Option K) → 1 < at → at < 2 * places
      → length xs ≡ 2 * places → IsSibling at other → IsNode R (set xs at was) (at / 2)
      → ((r : Option K) → IsLesser R r was (get_or xs other None)
      → IsLesser R r (get_or xs at None) (get_or xs other None))
      → ((r : Option K) → IsLesser R r (get_or xs other None) was
      → IsLesser R r (get_or xs other None) (get_or xs at None))
      → IsNode R xs (at / 2)
  node_settled xs places at other was some within len sibling node left right =
      let inside : at < length xs = omega (arith, within, len) in
      let parent : get_or (set xs at was) (at / 2) None ≡ get_or xs (at / 2) None =
      get_or-set_other xs at (at / 2) was None (omega (arith, some)) in
      elim sibling.side [
        | inl e ↦
            let here : get_or (set xs at was) (2 * (at / 2)) None ≡ was =
            ap (λ i. get_or (set xs at was) i None) (sym e.0) ∙ get_or-set_same xs at was None inside in
            let there : get_or (set xs at was) (2 * (at / 2) + 1) None ≡ get_or xs (2 * (at / 2) + 1) None =
            get_or-set_other xs at (2 * (at / 2) + 1) was None (omega (arith, e.0)) in
            let beside = there ∙ ap (λ i. get_or xs i None) (sym e.1) in
            let was_so : IsLesser R (get_or xs (at / 2) None) was (get_or xs other None) =
            subst (λ x. IsLesser R x was (get_or xs other None)) parent
            (subst (λ x. IsLesser R (get_or (set xs at was) (at / 2) None) x (get_or xs other None)) here
            (subst (λ x. IsLesser R (get_or (set xs at was) (at / 2) None)
            (get_or (set xs at was) (2 * (at / 2)) None) x) beside node)) in
            subst (λ i. IsLesser R (get_or xs (at / 2) None) (get_or xs i None) (get_or xs (2 * (at / 2) + 1) None)) e.0
            (subst (λ i. IsLesser R (get_or xs (at / 2) None) (get_or xs at None) (get_or xs i None)) e.1
            (left (get_or xs (at / 2) None) was_so))
        | inr e ↦
            let here : get_or (set xs at was) (2 * (at / 2) + 1) None ≡ was =
            ap (λ i. get_or (set xs at was) i None) (sym e.0) ∙ get_or-set_same xs at was None inside in
            let there : get_or (set xs at was) (2 * (at / 2)) None ≡ get_or xs (2 * (at / 2)) None =
            get_or-set_other xs at (2 * (at / 2)) was None (omega (arith, e.0)) in
            let beside = there ∙ ap (λ i. get_or xs i None) (sym e.1) in
            let was_so : IsLesser R (get_or xs (at / 2) None) (get_or xs other None) was =
            subst (λ x. IsLesser R x (get_or xs other None) was) parent
            (subst (λ x. IsLesser R (get_or (set xs at was) (at / 2) None) (get_or xs other None) x) here
            (subst (λ x. IsLesser R (get_or (set xs at was) (at / 2) None) x
            (get_or (set xs at was) (2 * (at / 2) + 1) None)) beside node)) in
            subst (λ i. IsLesser R (get_or xs (at / 2) None) (get_or xs (2 * (at / 2)) None) (get_or xs i None)) e.0
            (subst (λ i. IsLesser R (get_or xs (at / 2) None) (get_or xs i None) (get_or xs at None)) e.1
            (right (get_or xs (at / 2) None) was_so))
      ]

  -- no node is below the root
  pub root_within : IsTotalOrder R → (xs : List (Option K)) (places : ℕ) → IsTree R places xs
      → (most i : ℕ) → i ≤ most → 0 < i → i < 2 * places → Before R (get_or xs 1 None) (get_or xs i None)
  root_within o xs places t zero i upto first last = absurd (omega arith)
  root_within o xs places t (suc most) i upto first last =
      elim (cases_eq i 1) [
        | inl here ↦ rw here (before-same o (get_or xs 1 None))
        | inr other ↦
            let half : Before R (get_or xs 1 None) (get_or xs (i / 2) None) =
            root_within o xs places t most (i / 2) (omega arith) (omega arith) (omega arith) in
            let node = t.node (i / 2) (omega arith) (omega arith) in
            before-trans o (get_or xs 1 None) (get_or xs (i / 2) None) (get_or xs i None) half
            (elim (cases_eq i (2 * (i / 2))) [
              | inl even ↦ subst (λ (k : ℕ). Before R (get_or xs (i / 2) None) (get_or xs k None)) (sym even) node.left
              | inr uneven ↦
                  let odd : 2 * (i / 2) + 1 ≡ i = omega (arith, uneven) in
                  subst (λ (k : ℕ). Before R (get_or xs (i / 2) None) (get_or xs k None)) odd node.right
            ])
      ]

  -- no leaf is below the root
  pub root_least : IsTotalOrder R → (xs : List (Option K)) (places : ℕ) → IsTree R places xs
      → (i : ℕ) → Before R (get_or xs 1 None) (get_or (drop places xs) i None)
  root_least o xs places t i =
      rw (get_or-drop places xs i None)
      (elim (cases_lt (places + i) (length xs)) [
        | inl inside ↦
            root_within o xs places t (places + i) (places + i) (omega arith) (omega (arith, t.some))
            (omega (arith, t.len, inside))
        | inr past ↦ rw (get_or_past xs (places + i) None past) tt
      ])

  -- the child that isn't above the other reaches what its parent reaches
  pub left_reaches : IsTotalOrder R → (top a b key : Option K) → IsLesser R top a b → Before R a b → Before R top key
      → Before R a key
  left_reaches o top a b key l first up =
      elim l.one_of [
        | inl e ↦ subst (λ (x : Option K). Before R x key) e up
        | inr e ↦ before-trans o a b key first (subst (λ (x : Option K). Before R x key) e up)
      ]

  pub right_reaches : IsTotalOrder R → (top a b key : Option K) → IsLesser R top a b → Before R b a → Before R top key
      → Before R b key
  right_reaches o top a b key l first up =
      elim l.one_of [
        | inl e ↦ before-trans o b a key first (subst (λ (x : Option K). Before R x key) e up)
        | inr e ↦ subst (λ (x : Option K). Before R x key) e up
      ]

  -- below no key stands none, and below a key stands one
  pub none_below : (a b : Option K) → a ≡ None → Before R a b → b ≡ None
  none_below a None e h = refl
  none_below None (Some y) e h = absurd h
  none_below (Some x) (Some y) e h = cc

  pub some_below : (a b : Option K) (y : K) → b ≡ Some y → Before R a b → IsSome a
  some_below a None y e h = cc
  some_below None (Some z) y e h = absurd h
  some_below (Some x) (Some z) y e h = refl
