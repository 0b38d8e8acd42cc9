-- How many reads stand before the first write, among requests by rising id: the requests in front stand at the same
-- places among the reads alone, and behind them the reads at each place are later.
use Rattle.std.proofs.Common.{◌≡◌, ◌≢◌, ℕ, zero, suc, ◌<◌, ◌≤◌, List, [], ◌∷◌, length, get_or, filter, find, cond, not, Bool, true, false, Some, refl, ap, ◌∙◌, inl, inr, arith}
use Rattle.std.proofs.lemmas.Bool.{cases_lt}
use Rattle.std.specs.List.{slice_get}
use Rattle.split_types.specs.declared.request.Request.{Request}
use Rattle.split_types.specs.Requests.{is_write}
use Rattle.block_queue.specs.Backlog.{IsById, is_read}

-- how many reads stand before the first write
abbrev pub front_of : List Request → ℕ
front_of [] = 0
front_of (r ∷ rs) = cond (is_write r) 0 (suc (front_of rs))

-- there the first write stands
pub front-found : (rs : List Request) → slice_get rs (front_of rs) ≡ find is_write rs
front-found [] = refl
front-found (r ∷ rs) = by_test (is_write r) (front-found rs)
  where
    by_test : (writes : Bool) → slice_get rs (front_of rs) ≡ find is_write rs
        → slice_get (r ∷ rs) (cond writes 0 (suc (front_of rs))) ≡ cond writes (Some r) (find is_write rs)
    by_test true rest = refl
    by_test false rest = rest

-- they are reads
pub front-reads : (rs : List Request) → front_of rs ≤ length (filter is_read rs)
front-reads [] = omega arith
front-reads (r ∷ rs) = by_test (is_write r) (front-reads rs)
  where
    by_test : (writes : Bool) → front_of rs ≤ length (filter is_read rs)
        → cond writes 0 (suc (front_of rs)) ≤ length (cond (not writes) (r ∷ filter is_read rs) (filter is_read rs))
    by_test true rest = omega arith
    by_test false rest = omega arith

-- the reads are no more than all requests
pub reads-few : (rs : List Request) → length (filter is_read rs) ≤ length rs
reads-few [] = omega arith
reads-few (r ∷ rs) = by_test (is_read r) (reads-few rs)
  where
    by_test : (reads : Bool) → length (filter is_read rs) ≤ length rs
        → length (cond reads (r ∷ filter is_read rs) (filter is_read rs)) ≤ suc (length rs)
    by_test true rest = omega arith
    by_test false rest = omega arith

-- a request in front stands at its place among the reads
pub front-same : (rs : List Request) (m : ℕ) (d : Request) → m < front_of rs
    → get_or (filter is_read rs) m d ≡ get_or rs m d
front-same [] m d less = absurd (omega arith)
front-same (r ∷ rs) m d less = by_test (is_write r) m less (λ k. front-same rs k d)
  where
    by_test : (writes : Bool) (m : ℕ) → m < cond writes 0 (suc (front_of rs))
        → ((k : ℕ) → k < front_of rs → get_or (filter is_read rs) k d ≡ get_or rs k d)
        → get_or (cond (not writes) (r ∷ filter is_read rs) (filter is_read rs)) m d ≡ get_or (r ∷ rs) m d
    by_test true m less rest = absurd (omega arith)
    by_test false zero less rest = refl
    by_test false (suc k) less rest = rest k (omega arith)

-- the requests behind the first
tail : (r : Request) (rs : List Request) → IsById (r ∷ rs) → IsById rs
tail r rs up = λ i j d less within. up (suc i) (suc j) d (omega arith) (omega arith)

-- a read behind a request is later than what stands at its place with that request in front
shifted : (r : Request) (rs : List Request) (m : ℕ) (d : Request) → IsById (r ∷ rs)
    → m < length (filter is_read rs) → (get_or (r ∷ rs) m d).id.0 < (get_or (filter is_read rs) m d).id.0
shifted r [] m d up within = absurd (omega arith)
shifted r (q ∷ rs) m d up within =
    by_test (is_read q) m within (λ k. shifted q rs k d (tail r (q ∷ rs) up))
  where
    by_test : (reads : Bool) (m : ℕ) → m < length (cond reads (q ∷ filter is_read rs) (filter is_read rs))
        → ((k : ℕ) → k < length (filter is_read rs)
        → (get_or (q ∷ rs) k d).id.0 < (get_or (filter is_read rs) k d).id.0)
        → (get_or (r ∷ q ∷ rs) m d).id.0 < (get_or (cond reads (q ∷ filter is_read rs) (filter is_read rs)) m d).id.0
    by_test true zero within rest = up 0 1 d (omega arith) (omega arith)
    by_test true (suc k) within rest = rest k (omega arith)
    by_test false m within rest =
        omega (arith, rest m within, up m (suc m) d (omega arith) (omega (arith, reads-few rs)))

-- behind the front the read at a place is later than the request there
pub front-later : (rs : List Request) (m : ℕ) (d : Request) → IsById rs → front_of rs ≤ m
    → m < length (filter is_read rs) → (get_or rs m d).id.0 < (get_or (filter is_read rs) m d).id.0
front-later [] m d up past within = absurd (omega arith)
front-later (r ∷ rs) m d up past within =
    by_test (is_write r) m past within (λ k. shifted r rs k d up) (λ k. front-later rs k d (tail r rs up))
  where
    by_test : (writes : Bool) (m : ℕ) → cond writes 0 (suc (front_of rs)) ≤ m
        → m < length (cond (not writes) (r ∷ filter is_read rs) (filter is_read rs))
        → ((k : ℕ) → k < length (filter is_read rs)
        → (get_or (r ∷ rs) k d).id.0 < (get_or (filter is_read rs) k d).id.0)
        → ((k : ℕ) → front_of rs ≤ k → k < length (filter is_read rs)
        → (get_or rs k d).id.0 < (get_or (filter is_read rs) k d).id.0)
        → (get_or (r ∷ rs) m d).id.0
        < (get_or (cond (not writes) (r ∷ filter is_read rs) (filter is_read rs)) m d).id.0
    by_test true m past within moved rest = moved m within
    by_test false zero past within moved rest = absurd (omega arith)
    by_test false (suc k) past within moved rest = rest k (omega arith) (omega arith)

module _ (rs reads : List Request) (m : ℕ) (d : Request) (up : IsById rs) (are : reads ≡ filter is_read rs) where
  -- the same request at a place is one in front
  pub front-if_same : m < length reads → (get_or reads m d).id.0 ≡ (get_or rs m d).id.0 → m < front_of rs
  front-if_same within same = elim (cases_lt m (front_of rs)) [
    | inl less ↦ less
    | inr past ↦ absurd (omega (
      arith,
      rw are at same,
      front-later rs m d up past (rw are at within),
    ))
  ]

  -- another request at a place isn't
  pub front-if_other : (get_or reads m d).id.0 ≢ (get_or rs m d).id.0 → front_of rs ≤ m
  front-if_other other = elim (cases_lt m (front_of rs)) [
    | inl less ↦ absurd (other (ap (λ qs. (get_or qs m d).id.0) are ∙ ap (λ r. r.id.0) (front-same rs m d less)))
    | inr past ↦ past
  ]
