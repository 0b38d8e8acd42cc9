-- How many blocks are in flight.
use Rattle.std.proofs.Common.{◌≡◌, ℕ, zero, suc, ◌+◌, ◌-◌, ◌<◌, ◌≤◌, ◌⊎◌, ◌||◌, min, List, [], ◌∷◌, get_or, cond, true, false, refl, sym, ap, ◌∙◌, inl, inr, arith, subst, All, AllPairs, sum_by}
use Rattle.std.specs.List.{range_with_len}
use Rattle.std.proofs.lemmas.Bool.{cases_Bool, cases_lt}
use Rattle.std.proofs.lemmas.Bool.Decides.{nat_tests}
use Rattle.std.proofs.lemmas.List.{map-id}
use Rattle.std.proofs.lemmas.List.Elements.{All-head, All-tail}
use Rattle.std.proofs.lemmas.List.Folds.{list_any_none}
use Rattle.std.proofs.lemmas.List.FromFn.{sum_by-map-range_with_len_more, length-range_with_len}
use Rattle.std.proofs.lemmas.List.Sums.{sum_by-cons, count_by-le-length}
use Rattle.sim_disk.specs.Medium.{InFlight, AreApart, count_of, covers, is_in_flight}
use Rattle.sim_disk.specs.Fields.{IsWithin, AreInFlight}
use Rattle.sim_disk.specs.Crash.{in_flight_below}

-- one block more
pub below_more : (writes : List InFlight) (b : ℕ)
    → in_flight_below writes (b + 1) ≡ in_flight_below writes b + cond (is_in_flight writes b) 1 0
below_more writes b =
    let g : ℕ → ℕ = λ x. cond (is_in_flight writes x) 1 0 in
    ap (sum_by g) (sym (map-id (range_with_len 0 (b + 1))))
    ∙ sum_by-map-range_with_len_more g (λ x. x) 0 b b (omega arith)
    ∙ ap (λ xs. sum_by g xs + g b) (map-id (range_with_len 0 b))

-- more blocks
pub below_le : (writes : List InFlight) (b n : ℕ) → in_flight_below writes b ≤ in_flight_below writes (b + n)
below_le writes b zero = let same : b + 0 ≡ b = omega arith in rw same (omega arith)
below_le writes b (suc n) =
    let next : b + suc n ≡ b + n + 1 = omega arith in
    rw next (omega (arith, below_le writes b n, below_more writes (b + n)))

-- how many of the blocks below n a write covers
clipped : ℕ → InFlight → ℕ
clipped n w = min n (w.first + count_of w) - min n w.first

clipped_none : (w : InFlight) → clipped 0 w ≡ 0
unfolding clipped
clipped_none w = omega arith

clipped_all : (n : ℕ) (w : InFlight) → w.first + count_of w ≤ n → clipped n w ≡ count_of w
unfolding clipped
clipped_all n w within = omega (arith, within)

covers_within : (w : InFlight) (b : ℕ) → w.first ≤ b → b < w.first + count_of w → covers w b ≡ true
covers_within w b from to = grind (arith, nat_tests)

covers_outside : (w : InFlight) (b : ℕ) → (b < w.first) ⊎ (w.first + count_of w ≤ b) → covers w b ≡ false
covers_outside w b (inl before) = grind (arith, nat_tests)
covers_outside w b (inr after) = grind (arith, nat_tests)

pub covered_from : (w : InFlight) (b : ℕ) → covers w b ≡ true → w.first ≤ b
covered_from w b here = grind (arith, nat_tests)

pub covered_to : (w : InFlight) (b : ℕ) → covers w b ≡ true → b < w.first + count_of w
covered_to w b here = grind (arith, nat_tests)

clipped_more : (n : ℕ) (w : InFlight) → clipped (n + 1) w ≡ clipped n w + cond (covers w n) 1 0
unfolding clipped
clipped_more n w = elim (cases_lt n w.first) [
  | inl before ↦ rw (covers_outside w n (inl before)) (omega (arith, before))
  | inr from ↦ elim (cases_lt n (w.first + count_of w)) [
    | inl to ↦ rw (covers_within w n from to) (omega (arith, from, to))
    | inr after ↦ rw (covers_outside w n (inr after)) (omega (arith, from, after))
  ]
]

-- of writes that are apart one at most covers the next block
spread : (n : ℕ) (writes : List InFlight) → AllPairs AreApart writes
    → sum_by (clipped (n + 1)) writes ≡ sum_by (clipped n) writes + cond (is_in_flight writes n) 1 0
spread n [] apart = omega arith
spread n (w ∷ ws) apart =
    with_rest (spread n ws (λ i j d less within. apart (suc i) (suc j) d (omega arith) (omega arith)))
  where
    with_rest : sum_by (clipped (n + 1)) ws ≡ sum_by (clipped n) ws + cond (is_in_flight ws n) 1 0
        → sum_by (clipped (n + 1)) (w ∷ ws) ≡ sum_by (clipped n) (w ∷ ws) + cond (covers w n || is_in_flight ws n) 1 0
    with_rest rest = elim (cases_Bool (covers w n)) [
      | inl here ↦
          (let others : All (λ v. covers v n ≡ false) ws =
          λ k d within. covers_outside (get_or ws k d) n (elim (apart 0 (suc k) d (omega arith) (omega arith)) [
            | inl after ↦ inl (omega (arith, after, covered_to w n here))
            | inr before ↦ inr (omega (arith, before, covered_from w n here))
          ])
          in
          let none : is_in_flight ws n ≡ false = list_any_none (λ v. covers v n) ws others in
          let one : ◌≡◌ {A = ℕ} (cond (covers w n) 1 0) 1 = rw here refl in
          rw here (omega (
            arith,
            sum_by-cons (clipped (n + 1)) w ws,
            sum_by-cons (clipped n) w ws,
            clipped_more n w,
            one,
            rest,
            ap {B = ℕ} (λ b. cond b 1 0) none,
          )))
      | inr past ↦
          (let none_more : ◌≡◌ {A = ℕ} (cond (covers w n) 1 0) 0 = rw past refl in
          rw past (omega (
            arith,
            sum_by-cons (clipped (n + 1)) w ws,
            sum_by-cons (clipped n) w ws,
            clipped_more n w,
            none_more,
            rest,
          )))
    ]

none_clipped : (writes : List InFlight) → sum_by (clipped 0) writes ≡ 0
none_clipped [] = refl
none_clipped (w ∷ ws) = omega (arith, sum_by-cons (clipped 0) w ws, clipped_none w, none_clipped ws)

below_clipped : (n : ℕ) (writes : List InFlight) → AllPairs AreApart writes
    → in_flight_below writes n ≡ sum_by (clipped n) writes
below_clipped zero writes apart = sym (none_clipped writes)
below_clipped (suc n) writes apart =
    let next : n + 1 ≡ suc n = omega arith in
    let more : in_flight_below writes (n + 1) ≡ sum_by (clipped (n + 1)) writes =
    omega (arith, below_more writes n, spread n writes apart, below_clipped n writes apart) in
    subst (λ m. in_flight_below writes m ≡ sum_by (clipped m) writes) next more

all_clipped : (n : ℕ) (writes : List InFlight) → All (IsWithin n) writes
    → sum_by (clipped n) writes ≡ sum_by count_of writes
all_clipped n [] within = refl
all_clipped n (w ∷ ws) within =
    omega (
      arith,
      sum_by-cons (clipped n) w ws,
      sum_by-cons count_of w ws,
      clipped_all n w (All-head (IsWithin n) w ws within).end,
      all_clipped n ws (All-tail (IsWithin n) w ws within),
    )

-- the writes in flight cover as many blocks as they have together
pub in_flight_together : (size : ℕ) (writes : List InFlight) → AreInFlight size writes
    → in_flight_below writes size ≡ sum_by count_of writes
in_flight_together size writes kept = below_clipped size writes kept.apart ∙ all_clipped size writes kept.within

-- no more blocks are in flight than there are
pub below_few : (writes : List InFlight) (n : ℕ) → in_flight_below writes n ≤ n
below_few writes n = omega (
  arith,
  count_by-le-length (is_in_flight writes) (range_with_len 0 n),
  length-range_with_len 0 n,
)
