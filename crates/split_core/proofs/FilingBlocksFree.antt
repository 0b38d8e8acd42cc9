-- The free blocks that are kept are those of the history: how many they are, and the first run of them.
use Rattle.std.proofs.Common.{◌≡◌, ℕ, zero, suc, ◌+◌, ◌-◌, ◌<◌, ◌≤◌, List, [], ◌∷◌, length, filter, count_by, slice_get, nat_le, Bool, true, false, not, ◌&&◌, ◌⊎◌, Option, Some, None, refl, arith, sym, inl, inr, cond, ap, ◌∙◌}
use Rattle.std.specs.List.{prefix_len, range_with_len}
use Rattle.std.proofs.lemmas.Bool.{cases_lt, cond-true, cond-false, and_from, and_parts, false_from_ne_true, le-leb}
use Rattle.std.proofs.lemmas.Bool.Decides.{nat_tests}
use Rattle.std.proofs.lemmas.List.Folds.{length-prefix_len}
use Rattle.std.proofs.lemmas.List.Sums.{length-filter, sum_by-cons}
use Rattle.std.proofs.lemmas.Option.{slice_get_within}
use Rattle.split_types.specs.declared.workload.Workload.{Workload}
use Rattle.split_types.specs.declared.event.Event.{Event}
use Rattle.split_types.specs.Sets.{has}
use Rattle.split_types.specs.Workloads.{first_block}
use Rattle.split_types.specs.FileMaps.{free_blocks}
use Rattle.split_types.specs.ServedRuns.{free_run, free_run_of, in_a_row}
use Rattle.split_types.proofs.Shared.{count_no}
use Rattle.split_types.proofs.MapFree.{is_free}
use Rattle.delayed_alloc.specs.Blocks as kept
use Rattle.delayed_alloc.specs.Blocks.{Blocks, State, Free, Taken, Waiting, state_at, free_count, IsLeastRun}
use Rattle.split_core.specs.Filing.{BlocksAre, is_free_block, says_free}
use Rattle.split_core.proofs.FilingBlocksUsed.{is_in_use, free_at}

-- ---- how many
-- as many states are free as numbers pass, where each state is free as its number passes
count_states : (states : List State) (p : ℕ → Bool) (k : ℕ)
    → ((i : ℕ) → i < length states → says_free (slice_get states i) ≡ p (k + i))
    → count_by kept.is_free states ≡ count_by p (range_with_len k (length states))
count_states [] p k agree = refl
count_states (s ∷ states) p k agree =
    let same : ◌≡◌ {A = ℕ} (cond (kept.is_free s) 1 0) (cond (p k) 1 0) =
    ap (λ b. cond b 1 0) (agree 0 (omega arith) ∙ ap p (omega arith))
    in omega (
      arith,
      same,
      sum_by-cons (λ t. cond (kept.is_free t) 1 0) s states,
      sum_by-cons (λ y. cond (p y) 1 0) k (range_with_len (k + 1) (length states)),
      count_states states p (k + 1)
          (λ i below. agree (suc i) (omega (arith, below)) ∙ ap p (omega arith)),
    )

-- of numbers from a bound on
count_behind : (free : ℕ → Bool) (first k n : ℕ) → first ≤ k
    → count_by (λ x. nat_le first x && free x) (range_with_len k n) ≡ count_by free (range_with_len k n)
count_behind free first k zero behind = refl
count_behind free first k (suc n) behind =
    let same : ◌≡◌ {A = ℕ} (cond (nat_le first k && free k) 1 0) (cond (free k) 1 0) =
    ap (λ b. cond (b && free k) 1 0) (le-leb first k behind)
    in omega (
      arith,
      same,
      sum_by-cons (λ y. cond (nat_le first y && free y) 1 0) k (range_with_len (k + 1) n),
      sum_by-cons (λ y. cond (free y) 1 0) k (range_with_len (k + 1) n),
      count_behind free first (k + 1) n (omega (arith, behind)),
    )

count_from : (free : ℕ → Bool) (first k n : ℕ) → k ≤ first
    → count_by (λ x. nat_le first x && free x) (range_with_len k n)
    ≡ count_by free (range_with_len first (n - (first - k)))
count_from free first k zero before =
    ap (λ m. count_by free (range_with_len first m)) {x = 0} {y = 0 - (first - k)} (omega arith)
count_from free first k (suc n) before = elim (cases_lt k first) [
  | inl below ↦
      count_no (λ x. nat_le first x && free x) k (range_with_len (k + 1) n) (out below)
      ∙ count_from free first (k + 1) n (omega (arith, below))
      ∙ ap (λ m. count_by free (range_with_len first m)) {x = n - (first - (k + 1))} {y = suc n - (first - k)}
      (omega (arith, below))
  | inr from ↦
      (let same : k ≡ first = omega (arith, before, from)
      in count_behind free first k (suc n) from
      ∙ ap (λ m. count_by free (range_with_len m (suc n))) same
      ∙ ap (λ m. count_by free (range_with_len first m)) {x = suc n} {y = suc n - (first - k)} (omega (arith, same)))
]
  where
    out : k < first → (nat_le first k && free k) ≡ false
    out below =
        let past : nat_le first k ≡ false = grind (arith, nat_tests)
        in ap (λ b. b && free k) past

-- there are as many
pub free_counted : (w : Workload) (h : List Event) (a : Blocks) → BlocksAre w a h
    → free_count a ≡ length (free_blocks w h)
free_counted w h a stands =
    count_states a.states (is_free_block w h) 0
    (λ i below. stands.free i (omega (arith, below, stands.count)) ∙ ap (is_free_block w h) (omega arith))
    ∙ ap (λ n. count_by (is_free_block w h) (range_with_len 0 n)) stands.count
    ∙ count_from (λ x. not (is_in_use w h x)) (first_block w) 0 w.device (omega arith)
    ∙ ap (λ m. count_by (λ x. not (is_in_use w h x)) (range_with_len (first_block w) m))
    {x = w.device - (first_block w - 0)} {y = w.device - first_block w} (omega arith)
    ∙ sym (length-filter (λ x. not (is_in_use w h x)) (range_with_len (first_block w) (w.device - first_block w)))

-- ---- a block
says_is : (o : Option State) → says_free o ≡ true → o ≡ Some Free
says_is None is = absurd (cc)
says_is (Some Taken) is = absurd (cc)
says_is (Some Free) is = refl
says_is (Some (Waiting t)) is = absurd (cc)

pub block_free : (w : Workload) (h : List Event) (a : Blocks) (x : ℕ) → BlocksAre w a h → x < w.device
    → is_free_block w h x ≡ true → state_at a x ≡ Some Free
block_free w h a x stands below is = says_is (state_at a x) (stands.free x below ∙ is)

-- a free block is kept as free
pub free_state : (w : Workload) (h : List Event) (a : Blocks) (x : ℕ) → BlocksAre w a h
    → has (free_blocks w h) x ≡ true → state_at a x ≡ Some Free
free_state w h a x stands there =
    let below = (is_free w h x there).to in block_free w h a x stands below (free_at w h x below ∙ there)

-- and what is kept as free is free
pub state_free : (w : Workload) (h : List Event) (a : Blocks) (x : ℕ) → BlocksAre w a h → state_at a x ≡ Some Free
    → is_free_block w h x ≡ true
state_free w h a x stands at =
    sym (stands.free x (below_device at)) ∙ ap says_free at
  where
    below_device : state_at a x ≡ Some Free → x < w.device
    below_device is = omega (arith, slice_get_within a.states x Free is, stands.count)

pub state_there : (w : Workload) (h : List Event) (a : Blocks) (x : ℕ) → BlocksAre w a h → state_at a x ≡ Some Free
    → has (free_blocks w h) x ≡ true
state_there w h a x stands at =
    sym (free_at w h x (omega (arith, slice_get_within a.states x Free at, stands.count)))
    ∙ state_free w h a x stands at

-- ---- a run
-- the numbers of a range that pass begin with the first one that does
begins : (free : ℕ → Bool) (x k n : ℕ) → k ≤ x → x < k + n → free x ≡ true
    → ((y : ℕ) → k ≤ y → y < x → free y ≡ false)
    → (rest : List ℕ) × (filter free (range_with_len k n) ≡ x ∷ rest)
begins free x k zero from to is none = absurd (omega (arith, from, to))
begins free x k (suc n) from to is none = elim (cases_lt k x) [
  | inl below ↦
      (let later = begins free x (k + 1) n (omega (arith, below)) (omega (arith, to)) is
      (λ y least most. none y (omega (arith, least)) most)
      in (
        later.0,
        cond-false (free k) (k ∷ filter free (range_with_len (k + 1) n)) (filter free (range_with_len (k + 1) n))
            (none k (omega arith) below)
            ∙ later.1,
      ))
  | inr past ↦
      (let same : k ≡ x = omega (arith, from, past)
      in (
        filter free (range_with_len (k + 1) n),
        cond-true (free k) (k ∷ filter free (range_with_len (k + 1) n)) (filter free (range_with_len (k + 1) n))
            (ap free same ∙ is)
            ∙ ap (λ y. y ∷ filter free (range_with_len (k + 1) n)) same,
      ))
]

-- so many numbers of a range pass one after another
passes_so_many : (p : ℕ → Bool) (k n m : ℕ) → m ≤ n → ((i : ℕ) → i < m → p (k + i) ≡ true)
    → (m ≡ n) ⊎ (p (k + m) ≡ false) → prefix_len p (range_with_len k n) ≡ m
passes_so_many p k zero m most each ends = omega (arith, most)
passes_so_many p k (suc n) zero most each (inl is) = absurd (omega (arith, is))
passes_so_many p k (suc n) zero most each (inr out) =
    ap (λ b. cond b (1 + prefix_len p (range_with_len (k + 1) n)) 0) (ap p {x = k} {y = k + 0} (omega arith) ∙ out)
passes_so_many p k (suc n) (suc m) most each ends =
    ap (λ b. cond b (1 + prefix_len p (range_with_len (k + 1) n)) 0)
    (ap p {x = k} {y = k + 0} (omega arith) ∙ each 0 (omega arith))
    ∙ ap (λ j. 1 + j)
    (passes_so_many p (k + 1) n m (omega (arith, most))
    (λ i below. ap p {x = k + 1 + i} {y = k + suc i} (omega arith) ∙ each (suc i) (omega (arith, below)))
    (later ends))
    ∙ omega arith
  where
    later : (suc m ≡ suc n) ⊎ (p (k + suc m) ≡ false) → (m ≡ n) ⊎ (p (k + 1 + m) ≡ false)
    later (inl is) = inl (omega (arith, is))
    later (inr out) = inr (ap p {x = k + 1 + m} {y = k + suc m} (omega arith) ∙ out)

-- the first run of at most n free blocks
pub least_run : (w : Workload) (h : List Event) (a : Blocks) (n first m : ℕ) → BlocksAre w a h
    → IsLeastRun a n first m → 1 ≤ n → free_run w h n ≡ Some (record { first = first; n = m })
least_run w h a n first m stands least some =
    ap (λ l. free_run_of l n) begun.1
    ∙ ap (λ k. Some (record { first = first; n = k }))
    (ap (λ l. in_a_row l first n) (sym begun.1) ∙ long)
  where
    here : state_at a first ≡ Some Free
    here = least.free first (omega arith) (omega (arith, least.some))

    below : first < w.device
    below = omega (arith, slice_get_within a.states first Free here, stands.count)

    data_free : (nat_le (first_block w) first ≡ true) × (not (is_in_use w h first) ≡ true)
    data_free =
        and_parts (nat_le (first_block w) first) (not (is_in_use w h first)) (state_free w h a first stands here)

    from : first_block w ≤ first
    from = let is = data_free.0 in grind (arith, nat_tests)

    before : (y : ℕ) → first_block w ≤ y → y < first → not (is_in_use w h y) ≡ false
    before y behind less = false_from_ne_true (not (is_in_use w h y))
        (λ is. absurd (omega (
          arith,
          less,
          least.least y (block_free w h a y stands (omega (arith, less, below))
              (and_from (nat_le (first_block w) y) (not (is_in_use w h y)) (le-leb (first_block w) y behind) is)),
        )))

    begun : (rest : List ℕ) × (free_blocks w h ≡ first ∷ rest)
    begun =
        begins (λ x. not (is_in_use w h x)) first (first_block w) (w.device - first_block w) from
        (omega (arith, from, below)) data_free.1 before

    ends : (m ≡ n) ⊎ (has (free_blocks w h) (first + (0 + m)) ≡ false)
    ends = elim least.longest [
      | inl is ↦ inl is
      | inr out ↦
          inr (false_from_ne_true (has (free_blocks w h) (first + (0 + m)))
          (λ there. out (free_state w h a (first + m) stands
          (ap (has (free_blocks w h)) {x = first + m} {y = first + (0 + m)} (omega arith) ∙ there))))
    ]

    long : in_a_row (free_blocks w h) first n ≡ m
    long =
        length-prefix_len (λ k. has (free_blocks w h) (first + k)) (range_with_len 0 n)
        ∙ passes_so_many (λ k. has (free_blocks w h) (first + k)) 0 n m least.most
        (λ i less. state_there w h a (first + (0 + i)) stands
        (least.free (first + (0 + i)) (omega arith) (omega (arith, less)))) ends
