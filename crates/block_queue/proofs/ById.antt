-- Among requests by rising id one alone has a given id.
use Rattle.std.proofs.Common.{◌≡◌, ℕ, suc, ◌+◌, ◌<◌, ◌≤◌, List, [], ◌∷◌, length, get_or, filter, cond, not, Bool, true, false, Some, Ok, Err, Result, IsSomeAnd, sym, ap, subst, ◌∙◌, inl, inr, arith, All, Any, IsOk, refl, count_by}
use Rattle.std.specs.List.{slice_get, HoldsAt}
use Rattle.std.specs.List.Sorted.{IsSearchInRange, IsBinarySearchResult, IsNonDecreasingBy}
use Rattle.std.specs.Ordering.{nat_cmp, ordering_index}
use Rattle.std.specs.declared.cmp.Ordering.TheVariants.{Less, Equal, Greater}
use Rattle.std.proofs.lemmas.Cmp.{ranked}
use Rattle.std.proofs.lemmas.Bool.{cases_eq, cases_lt, cases_Bool}
use Rattle.std.proofs.lemmas.List.Folds.{list_any_none}
use Rattle.std.proofs.lemmas.List.Sums.{length-filter}
use Rattle.std.proofs.lemmas.List.Filters.{length-filter_both}
use Rattle.std.proofs.lemmas.Option.{slice_get-get_or, slice_get_within, get_or_from_slice_get}
use Rattle.std.proofs.lemmas.Bool.Decides.{nat_tests}
use Rattle.split_types.specs.declared.ids.ReqId.{ReqId}
use Rattle.split_types.specs.declared.request.Request.{Request}
use Rattle.split_types.specs.Requests.{is_numbered}
use Rattle.split_types.proofs.Lists.{count_yes, count_no, count_none, filter_none, filter_there}
use Rattle.block_queue.specs.Backlog.{IsById}

-- ids are their numbers
same_id : (a b : ReqId) → a.0 ≡ b.0 → a ≡ b
same_id a b same = ap (λ (n : ℕ). let id : ReqId = record { 0 = n } in id) same

module _ (rs : List Request) (up : IsById rs) (id : ReqId) where
  -- the ids rise along the list, as a binary search asks
  ids_rise : IsNonDecreasingBy (λ r. ordering_index (nat_cmp r.id.0 id.0)) rs
  ids_rise = λ i j d le within.
      let rise : (get_or rs i d).id.0 ≤ (get_or rs j d).id.0 = elim (cases_eq i j) [
        | inl same ↦ omega (arith, ap (λ k. (get_or rs k d).id.0) same)
        | inr differs ↦ omega (arith, up i j d (omega arith) within)
      ] in
      grind (arith, nat_tests)

  -- a binary search for an id that a request has ends at one
  pub search_ends : Any (λ r. r.id ≡ id) rs → (r : Result ℕ ℕ) → IsBinarySearchResult (λ q. nat_cmp q.id.0 id.0) rs r
      → IsOk r
  search_ends some (Ok at) equal = refl
  search_ends some (Err at) parted =
      let there : (get_or rs some.0 some.1).id.0 ≡ id.0 = ap (λ q. q.id.0) some.3 ∙ ap (λ i. i.0) some.4 in
      elim (cases_lt some.0 at) [
        | inl below ↦ absurd (omega (
          arith,
          ranked _ id.0 Less
              (sym ((parted ids_rise).0 some.0 some.1 (omega arith) below)),
        ))
        | inr above ↦ absurd (omega (
          arith,
          ranked _ id.0 Greater
              (sym ((parted ids_rise).1 some.0 some.1 above some.2)),
        ))
      ]

-- where it ends is a request of that id
pub search_finds : (rs : List Request) (id : ReqId) (d : Request) (r : Result ℕ ℕ) (at : ℕ) → r ≡ Ok at
    → IsSearchInRange r (length rs) → IsBinarySearchResult (λ q. nat_cmp q.id.0 id.0) rs r
    → IsSomeAnd (slice_get rs at) (λ q. q.id ≡ id)
search_finds rs id d r at is within found =
    let inside : at < length rs = subst (λ x. IsSearchInRange x (length rs)) is within in
    let equal : HoldsAt (λ q. nat_cmp q.id.0 id.0 ≡ Equal) rs at =
    subst (IsBinarySearchResult (λ q. nat_cmp q.id.0 id.0) rs) is found in
    rw (slice_get-get_or rs at d inside) (same_id _ _ (ranked _ id.0 Equal (sym (equal d))))

-- one request at most has an id
pub once : (rs : List Request) (id : ReqId) → IsById rs → count_by (is_numbered id) rs ≤ 1
once [] id up = omega arith
once (r ∷ rs) id up = elim (cases_Bool (is_numbered id r)) [
  | inl here ↦
      (let later : All (λ q. is_numbered id q ≡ false) rs = λ k d within. let less =
      up 0 (suc k) d (omega arith) (omega arith) in grind (arith, nat_tests, here) in
      omega (
        arith,
        count_yes (is_numbered id) r rs here,
        count_none (is_numbered id) rs (list_any_none (is_numbered id) rs later),
      ))
  | inr past ↦ omega (
    arith,
    count_no (is_numbered id) r rs past,
    once rs id (λ i j d less within. up (suc i) (suc j) d (omega arith) (omega arith)),
  )
]

-- two filters in either order
pub filter_comm : {X : Type 0} (p q : X → Bool) (xs : List X) → filter p (filter q xs) ≡ filter q (filter p xs)
filter_comm p q [] = refl
filter_comm p q (x ∷ xs) = by_tests (p x) (q x) refl refl (filter_comm p q xs)
  where
    by_tests : (a b : Bool) → p x ≡ a → q x ≡ b → filter p (filter q xs) ≡ filter q (filter p xs)
        → filter p (cond b (x ∷ filter q xs) (filter q xs)) ≡ filter q (cond a (x ∷ filter p xs) (filter p xs))
    by_tests true true pa qb rest = rw (pa, qb) (ap (λ l. x ∷ l) rest)
    by_tests true false pa qb rest = rw qb rest
    by_tests false true pa qb rest = rw pa rest
    by_tests false false pa qb rest = rest

module _ (p : Request → Bool) (rs : List Request) (id : ReqId) (r : Request) (kept : filter (is_numbered id) rs
    ≡ r ∷ []) where
  both : filter (is_numbered id) (filter p rs) ≡ filter p (r ∷ [])
  both = filter_comm (is_numbered id) p rs ∙ ap (filter p) kept

  -- where the request of an id passes a test, it is among those that do
  pub any_passing : p r ≡ true → Any (λ q. q.id ≡ id) (filter p rs)
  any_passing passes =
      let first : slice_get (filter (is_numbered id) (filter p rs)) 0 ≡ Some r = rw (both, passes) refl in
      let found = filter_there (is_numbered id) (filter p rs) 0 r first in (
        found.0,
        r,
        slice_get_within (filter p rs) found.0 r found.1,
        get_or_from_slice_get (filter p rs) found.0 r r found.1,
        same_id r.id id (grind (arith, nat_tests, found.2)),
      )

  -- where it fails, those that pass are as many without it
  pub same_passing : p r ≡ false → filter p rs ≡ filter p (filter (λ q. not (is_numbered id q)) rs)
  same_passing fails =
      let none : filter (is_numbered id) (filter p rs) ≡ [] = both ∙ ap (λ b. cond b (r ∷ []) []) fails in
      let count : count_by (is_numbered id) (filter p rs) ≡ 0 =
      omega (arith, length-filter (is_numbered id) (filter p rs), ap length none) in
      sym (filter_none (is_numbered id) (filter p rs) count).1 ∙ filter_comm (λ q. not (is_numbered id q)) p rs

  -- one request fewer
  pub one_fewer : length (filter (λ q. not (is_numbered id q)) rs) + 1 ≡ length rs
  one_fewer = omega (
    arith,
    length-filter_both (is_numbered id) (λ q. not (is_numbered id q)) (λ q. refl) rs,
    ap length kept,
  )
