-- What holds of the numbers of touches, and of their ranks.
use Rattle.std.proofs.Common.{◌≡◌, ◌≢◌, ℕ, zero, suc, ◌+◌, ◌^◌, ◌<◌, ◌≤◌, Bool, true, false, cond, List, [], ◌∷◌, map, length, get_or, set, replicate, Option, Some, None, IfSome, IfNone, is_some, arith, refl, ap, sym, ◌∙◌, inl, inr, length-set}
use Rattle.std.specs.Prelude.{count_by, nat_lt}
use Rattle.std.specs.List.{sum_by}
use Rattle.std.specs.Ordering.{nat_cmp}
use Rattle.std.proofs.lemmas.Bool.{cases_Bool, cases_eq, cases_lt}
use Rattle.std.proofs.lemmas.Bool.Decides.{nat_tests}
use Rattle.std.proofs.lemmas.List.{ext_get_or, length-map, map-set, get_or-map, get_or_past, set-get_or, get_or-set_same, get_or-set_other}
use Rattle.std.proofs.lemmas.List.Sums.{sum_by-cons, count_by-le-length}
use Rattle.fixed_places.specs.Tree.{Before, IsLeast, HasNone}
use Rattle.fixed_places.proofs.PlaceLaws.{empty_places, some-within}
use Rattle.fixed_places.specs.Recency.{Touched, IsTouched, IsOldest, NoCandidate, IsRecency, KeepsOrder, AreRekeyed, rekeyed}

-- ---- candidates

pub is_some-at : (candidates : List (Option ℕ)) (i : ℕ)
    → get_or (map is_some candidates) i false ≡ is_some (get_or candidates i None)
is_some-at [] i = refl
is_some-at (x ∷ xs) zero = refl
is_some-at (x ∷ xs) (suc i) = is_some-at xs i

pub no_candidates : (places : ℕ) → map is_some (empty_places ℕ places) ≡ replicate places false
no_candidates zero = refl
no_candidates (suc places) = ap (λ rest. false ∷ rest) (no_candidates places)

pub is_some-rekeyed : (touch : ℕ) (candidate : Option ℕ) → is_some (rekeyed touch candidate) ≡ is_some candidate
is_some-rekeyed touch None = refl
is_some-rekeyed touch (Some x) = refl

pub candidates-rekeyed : (old new : List (Option ℕ)) (touches : List ℕ) → length new ≡ length old
    → AreRekeyed old new touches
    → map is_some new ≡ map is_some old
candidates-rekeyed old new touches len rekey =
    ext_get_or false (map is_some new) (map is_some old) (length-map new is_some ∙ len ∙ sym (length-map old is_some))
    (λ i h.
    let inside : i < length old = omega (arith, h, length-map new is_some, len) in
    is_some-at new i ∙ ap is_some (rekey i inside) ∙ is_some-rekeyed (get_or touches i 0) (get_or old i None)
    ∙ sym (is_some-at old i))

pub candidates-rekeyed_one : (candidates : List (Option ℕ)) (at touch : ℕ)
    → map is_some (set candidates at (rekeyed touch (get_or candidates at None))) ≡ map is_some candidates
candidates-rekeyed_one candidates at touch =
    map-set is_some candidates at (rekeyed touch (get_or candidates at None))
    ∙ ap (set (map is_some candidates) at) (is_some-rekeyed touch (get_or candidates at None)
    ∙ sym (is_some-at candidates at))
    ∙ set-get_or (map is_some candidates) at false

-- ---- ranks

abbrev one : (ℕ → Bool) → ℕ → ℕ
one p x = cond (p x) 1 0

one-le : (p q : ℕ → Bool) (x : ℕ) → ((y : ℕ) → p y ≡ true → q y ≡ true) → one p x ≤ one q x
one-le p q x within =
    elim (cases_Bool (p x)) [
      | inl passes ↦ rw (passes, within x passes) (omega arith)
      | inr fails ↦ rw fails (omega arith)
    ]

count-le : (p q : ℕ → Bool) (xs : List ℕ) → ((y : ℕ) → p y ≡ true → q y ≡ true) → count_by p xs ≤ count_by q xs
count-le p q [] within = omega arith
count-le p q (x ∷ xs) within =
    omega (arith, sum_by-cons (one p) x xs, sum_by-cons (one q) x xs, one-le p q x within, count-le p q xs within)

-- a test that an item passes beside all that pass another one
pub count-less : (p q : ℕ → Bool) (xs : List ℕ) (i : ℕ) → i < length xs → ((y : ℕ) → p y ≡ true → q y ≡ true)
    → p (get_or xs i 0) ≡ false → q (get_or xs i 0) ≡ true → count_by p xs < count_by q xs
count-less p q [] i h within fails passes = absurd (omega arith)
count-less p q (x ∷ xs) zero h within fails passes =
    let zero_more : one p x ≡ 0 = rw fails refl in
    let one_more : one q x ≡ 1 = rw passes refl in
    omega (arith, sum_by-cons (one p) x xs, sum_by-cons (one q) x xs, zero_more, one_more, count-le p q xs within)
count-less p q (x ∷ xs) (suc i) h within fails passes =
    omega (
      arith,
      sum_by-cons (one p) x xs,
      sum_by-cons (one q) x xs,
      one-le p q x within,
      count-less p q xs i (omega arith) within fails passes,
    )

-- how many are below a number
abbrev pub rank_of : List ℕ → ℕ → ℕ
rank_of touches touch = count_by (λ other. nat_lt other touch) touches

lt-self : (x : ℕ) → nat_lt x x ≡ false
lt-self x = grind (arith, nat_tests)

lt-true : (x y : ℕ) → x < y → nat_lt x y ≡ true
lt-true x y h = grind (arith, nat_tests)

lt-trans : (x y z : ℕ) → x < y → nat_lt z x ≡ true → nat_lt z y ≡ true
lt-trans x y z h k = grind (arith, nat_tests)

pub rank-order : (touches : List ℕ) (i j : ℕ) → i < length touches → get_or touches i 0 < get_or touches j 0
    → rank_of touches (get_or touches i 0) < rank_of touches (get_or touches j 0)
rank-order touches i j within less =
    count-less (λ other. nat_lt other (get_or touches i 0)) (λ other. nat_lt other (get_or touches j 0)) touches i
    within
    (λ z. lt-trans (get_or touches i 0) (get_or touches j 0) z less) (lt-self (get_or touches i 0))
    (lt-true (get_or touches i 0) (get_or touches j 0) less)

pub rank-below : (touches : List ℕ) (i : ℕ) → i < length touches → rank_of touches (get_or touches i 0) < length touches
rank-below touches i within =
    let less : rank_of touches (get_or touches i 0) < count_by (λ other. true) touches =
    count-less (λ other. nat_lt other (get_or touches i 0)) (λ other. true) touches i within (λ z h. refl)
    (lt-self (get_or touches i 0)) refl in
    omega (arith, less, count_by-le-length (λ (other : ℕ). true) touches)

pub ranks_are : (ranks touches : List ℕ) → length ranks ≡ length touches
    → ((k : ℕ) → k < length touches → get_or ranks k 0 ≡ rank_of touches (get_or touches k 0))
    → ranks ≡ map (rank_of touches) touches
ranks_are ranks touches len done =
    ext_get_or 0 ranks (map (rank_of touches) touches) (len ∙ sym (length-map touches (rank_of touches)))
    (λ i h. let inside : i < length touches = omega (arith, len, h) in
    done i inside ∙ sym (get_or-map (rank_of touches) touches i 0 0 inside))

rank-at : (touches : List ℕ) (i : ℕ) → i < length touches
    → get_or (map (rank_of touches) touches) i 0 ≡ rank_of touches (get_or touches i 0)
rank-at touches i h = get_or-map (rank_of touches) touches i 0 0 h

pub ranks-order : (touches : List ℕ) → KeepsOrder touches (map (rank_of touches) touches)
ranks-order touches i j h k less = rw (rank-at touches i h, rank-at touches j k) (rank-order touches i j h less)

-- the ranks in place of the numbers
pub recency-ranked : (touches others : List ℕ) (next : ℕ) (candidates new : List (Option ℕ))
    → IsRecency touches next candidates others
    → length new ≡ length candidates → AreRekeyed candidates new (map (rank_of touches) touches)
    → IsRecency (map (rank_of touches) touches) (length touches) new touches
recency-ranked touches others next candidates new r len rekey =
    let ranks = map (rank_of touches) touches in
    let ranks_len : length ranks ≡ length touches = length-map touches (rank_of touches) in
    record {
      some = rw ranks_len r.some;
      few = rw ranks_len r.few;
      candidates_len = len ∙ r.candidates_len ∙ sym ranks_len;
      others_len = sym ranks_len;
      below = λ i h. let inside : i < length touches = omega (arith, ranks_len, h) in
          rw (rank-at touches i inside) (rank-below touches i inside);
      kept = λ i. elim (cases_lt i (length candidates)) [
        | inl inside ↦ rw (rekey i inside) (under (get_or ranks i 0) (get_or candidates i None))
        | inr past ↦ rw (get_or_past new i None (omega (arith, len, past))) tt
      ];
    }
  where
    under : (touch : ℕ) (candidate : Option ℕ) → IfSome (rekeyed touch candidate) (λ other. other ≡ touch)
    under touch None = tt
    under touch (Some x) = refl

-- ---- the candidate touched longest ago

pub none-oldest : (touches : List ℕ) (candidates : List (Option ℕ)) → HasNone candidates
    → NoCandidate (record { touches = touches; candidates = map is_some candidates })
none-oldest touches candidates none i = is_some-at candidates i ∙ ap is_some (none i)

upto : (a b : Option ℕ) (x y : ℕ) → IfSome a (λ touch. touch ≡ x) → IfSome b (λ touch. touch ≡ y) → is_some a ≡ true
    → is_some b ≡ true
    → Before nat_cmp a b → x ≤ y
upto None b x y e f s t h = absurd (cc)
upto (Some a) None x y e f s t h = absurd (cc)
upto (Some a) (Some b) x y e f s t h = let least : a ≤ b = grind (arith, nat_tests) in omega (arith, e, f)

pub is-oldest : (touches others : List ℕ) (next : ℕ) (candidates : List (Option ℕ)) (at : ℕ)
    → IsRecency touches next candidates others
    → IsLeast nat_cmp candidates at → IsOldest (record { touches = touches; candidates = map is_some candidates }) at
is-oldest touches others next candidates at r least =
    let here : is_some (get_or candidates at None) ≡ true = least.some in
    record {
      within = rw (← r.candidates_len) least.within;
      candidate = is_some-at candidates at ∙ here;
      oldest = λ i passes.
          let there : is_some (get_or candidates i None) ≡ true = sym (is_some-at candidates i) ∙ passes in
          upto (get_or candidates at None) (get_or candidates i None) (get_or touches at 0) (get_or touches i 0)
          (r.kept at) (r.kept i) here there (least.least i);
    }

pub if_none-as : (place : Option ℕ) (P Q : Type 0) → IfNone place P → (P → Q) → IfNone place Q
if_none-as None P Q h f = f h
if_none-as (Some at) P Q h f = h

pub if_some-as : (place : Option ℕ) (P Q : ℕ → Type 0) → IfSome place P → ((at : ℕ) → P at → Q at) → IfSome place Q
if_some-as None P Q h f = h
if_some-as (Some at) P Q h f = f at h
