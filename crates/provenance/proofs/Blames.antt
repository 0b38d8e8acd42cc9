-- The causes that are gathered over the parents of an event.
use Rattle.std.proofs.Common.{◌≡◌, ℕ, ◌+◌, ◌<◌, true, List, [], ◌∷◌, ◌++◌, map, length, take, get_or, arith, ap, sym, subst, ◌∙◌}
use Rattle.std.specs.Prelude.{Some, ◌==◌}
use Rattle.std.proofs.lemmas.List.{take_more, take_all, map-append}
use Rattle.std.proofs.lemmas.List.Folds.{list_any_at}
use Rattle.std.proofs.lemmas.Bool.{eq-eqb}
use Rattle.split_types.specs.declared.event.Event.{Event}
use Rattle.split_types.specs.History.{event_at, older}
use Rattle.split_types.specs.Parents.{parents_of}
use Rattle.split_types.specs.Sets.{has, union_of, IsSet}
use Rattle.split_types.specs.Blame.{own_blame, blame}
use Rattle.split_types.proofs.Shared.{union-one, union-flat, union-is_set}
use Rattle.split_types.proofs.Shared.{event_at-within, length-older_at}
use Rattle.split_types.proofs.Shared.{parents-below}
use Rattle.split_types.proofs.Shared.{blame-at}

-- at first there is the event's own process
pub own-alone : (own : List ℕ) (causes : List ℕ) → causes ≡ union_of (own ∷ []) → causes ≡ union_of (causes ∷ [])
own-alone own causes is = sym (union-one causes (subst IsSet (sym is) (union-is_set (own ∷ []))))

-- the causes of one parent more
pub parent-more : (h : List Event) (parents : List ℕ) (k : ℕ) (j : ℕ) (start causes new : List ℕ)
    → causes ≡ union_of (start ∷ map (blame h) (take k parents)) → k < length parents → j ≡ get_or parents k 0
    → new ≡ union_of (causes ∷ blame h j ∷ []) → new ≡ union_of (start ∷ map (blame h) (take (k + 1) parents))
parent-more h parents k j start causes new is lt at news =
    let one : take (k + 1) parents ≡ take k parents ++ j ∷ [] = take_more parents k 0 lt
    ∙ ap (λ x. take k parents ++ x ∷ []) (sym at) in
    news
    ∙ ap (λ c. union_of (c ∷ blame h j ∷ [])) is
    ∙ union-flat (start ∷ map (blame h) (take k parents)) (blame h j ∷ [])
    ∙ ap (λ l. union_of (start ∷ l)) (sym (map-append (blame h) (take k parents) (j ∷ []))
    ∙ ap (map (blame h)) (sym one))

-- with all parents the causes are the blame
pub all-parents : (h : List Event) (e : Event) (i k : ℕ) (parents start causes : List ℕ)
    → event_at h i ≡ Some e → parents ≡ parents_of (older h i) e → start ≡ union_of (own_blame e ∷ [])
    → k ≡ length parents → causes ≡ union_of (start ∷ map (blame h) (take k parents)) → causes ≡ blame h i
all-parents h e i k parents start causes at are begun full is =
    is
    ∙ ap (λ n. union_of (start ∷ map (blame h) (take n parents))) full
    ∙ ap (λ l. union_of (start ∷ map (blame h) l)) (take_all (length parents) parents (omega arith) ∙ are)
    ∙ ap (λ s. union_of (s ∷ map (blame h) (parents_of (older h i) e))) begun
    ∙ union-flat (own_blame e ∷ []) (map (blame h) (parents_of (older h i) e))
    ∙ sym (blame-at h e i at)

-- a parent comes before its event
pub parent-below : (h : List Event) (e : Event) (i k j : ℕ) (parents : List ℕ)
    → event_at h i ≡ Some e → parents ≡ parents_of (older h i) e → k < length parents → j ≡ get_or parents k 0 → j < i
parent-below h e i k j parents at are lt is =
    let among : has parents j ≡ true = list_any_at (λ q. q == j) parents k 0 lt (eq-eqb (get_or parents k 0) j (sym is))
    in
    let low = parents-below (older h i) e j (subst (λ l. has l j ≡ true) are among) in
    omega (arith, length-older_at h i (omega (arith, event_at-within h e i at)))
