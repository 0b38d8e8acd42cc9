-- Runs of pages and of blocks: how long they are, what each of them passes, and where the first page is found.
use Rattle.std.proofs.Common.{◌≡◌, ℕ, zero, suc, ◌+◌, ◌==◌, ◌<◌, ◌≤◌, List, [], ◌∷◌, length, slice_get, filter, take_while, Bool, true, false, Option, Some, None, refl, arith, subst, sym, cond, ◌∙◌, ap, if◌then◌else◌}
use Rattle.std.specs.List.{prefix_len, range_with_len}
use Rattle.std.proofs.lemmas.Bool.{or_left}
use Rattle.std.proofs.lemmas.Bool.Decides.{nat_tests}
use Rattle.std.proofs.lemmas.List.Folds.{length-prefix_len}
use Rattle.std.proofs.lemmas.List.FromFn.{length-range_with_len, get_or-range_with_len}
use Rattle.std.proofs.lemmas.List.Sums.{prefix_len-le-length, prefix_len_passes}
use Rattle.std.proofs.lemmas.Option.{same_Some}
use Rattle.split_types.specs.declared.buf.Buf.{Buf}
use Rattle.split_types.specs.Sets.{has}
use Rattle.split_types.specs.ServedRuns.{FreeRun, is_up_to, lesser_page, least_page, are_apart, free_run_of}
use Rattle.split_types.proofs.Lists.{filter_there}

-- ---- numbers from 0 on, as long as they pass
pub while_passes : (p : ℕ → Bool) (n k : ℕ) → k < length (take_while p (range_with_len 0 n)) → p k ≡ true
while_passes p n k below =
    let short : k < prefix_len p (range_with_len 0 n) = omega (arith, length-prefix_len p (range_with_len 0 n)) in
    let within : k < n =
    omega (arith, prefix_len-le-length p (range_with_len 0 n), length-range_with_len 0 n) in
    let is : 0 + k ≡ k = omega arith in
    subst (λ j. p j ≡ true) (get_or-range_with_len 0 n k 0 within ∙ is)
    (prefix_len_passes p (range_with_len 0 n) k 0 short)

pub while_some : (p : ℕ → Bool) (n : ℕ) → p 0 ≡ true → 1 ≤ n → 1 ≤ length (take_while p (range_with_len 0 n))
while_some p zero passes some = absurd (omega arith)
while_some p (suc n) passes some =
    let first : prefix_len p (range_with_len 0 (suc n)) ≡ 1 + prefix_len p (range_with_len 1 n) =
    ap (λ b. cond b (1 + prefix_len p (range_with_len 1 n)) 0) passes in
    omega (arith, first, length-prefix_len p (range_with_len 0 (suc n)))

pub while_most : (p : ℕ → Bool) (n : ℕ) → length (take_while p (range_with_len 0 n)) ≤ n
while_most p n =
    omega (
      arith,
      length-prefix_len p (range_with_len 0 n),
      prefix_len-le-length p (range_with_len 0 n),
      length-range_with_len 0 n,
    )

-- ---- free blocks in a row
-- the run is of such blocks, at most n, and of one at least where one is asked for
pub record IsFreeRun (blocks : List ℕ) (n : ℕ) (free : FreeRun) : Type 0 where
  pub some : 1 ≤ n → 1 ≤ free.n
  pub most : free.n ≤ n
  pub each : (k : ℕ) → k < free.n → has blocks (free.first + k) ≡ true

pub free_is : (blocks : List ℕ) (n : ℕ) (free : FreeRun) → free_run_of blocks n ≡ Some free → IsFreeRun blocks n free
free_is [] n free is = absurd (cc)
free_is (x ∷ blocks) n free is =
    subst (IsFreeRun (x ∷ blocks) n)
    (same_Some (record { first = x; n = length (take_while among (range_with_len 0 n)) }) free is)
    (record {
      some = λ least. while_some among n here least;
      most = while_most among n;
      each = λ k below. while_passes among n k below;
    })
  where
    among : ℕ → Bool
    among k = has (x ∷ blocks) (x + k)

    here : among 0 ≡ true
    here = or_left (x == x + 0) (has blocks (x + 0)) (grind (arith, nat_tests))

-- ---- pages in a row
pub apart_none : (k : ℕ) (a b : Option ℕ) → a ≡ None → are_apart k a b ≡ true → b ≡ None
apart_none k None None none is = refl
apart_none k None (Some y) none is = absurd (cc)
apart_none k (Some x) b none is = absurd (cc)

pub apart_some : (k x : ℕ) (a b : Option ℕ) → a ≡ Some x → are_apart k a b ≡ true → b ≡ Some (x + k)
apart_some k x None b some is = absurd (cc)
apart_some k x (Some y) None some is = absurd (cc)
apart_some k x (Some y) (Some z) some is =
    let same : y ≡ x = same_Some y x some in
    let later : z ≡ y + k = grind (arith, nat_tests) in
    ap Some (omega (arith, same, later))

pub apart_both : (k x y : ℕ) (a b : Option ℕ) → a ≡ Some x → b ≡ Some y → y ≡ x + k → are_apart k a b ≡ true
apart_both k x y a b first second is =
    subst (λ o. are_apart k o b ≡ true) (sym first)
    (subst (λ o. are_apart k (Some x) o ≡ true) (sym second) (grind (arith, nat_tests)))

pub apart_self : (a : Option ℕ) → are_apart 0 a a ≡ true
apart_self None = refl
apart_self (Some x) = grind (arith, nat_tests)

-- ---- the first page of some
-- it is one of them
pub least_there : (bufs : List Buf) (b : Buf) → least_page bufs ≡ Some b → (i : ℕ) × (slice_get bufs i ≡ Some b)
least_there [] b is = absurd (cc)
least_there (c ∷ bufs) b is = by_rest (least_page bufs) (λ d at. least_there bufs d at) refl is
  where
    Place : Type 0
    Place = (i : ℕ) × (slice_get (c ∷ bufs) i ≡ Some b)

    by_test : (t : Bool) (d : Buf) → (d ≡ b → Place) → (if t then Some c else Some d) ≡ Some b → Place
    by_test true d later same = (0, same)
    by_test false d later same = later (same_Some d b same)

    by_rest : (o : Option Buf) → ((d : Buf) → least_page bufs ≡ Some d → (i : ℕ) × (slice_get bufs i ≡ Some d))
        → least_page bufs ≡ o → lesser_page c o ≡ Some b → Place
    by_rest None there rest same = (0, same)
    by_rest (Some d) there rest same =
        by_test (is_up_to c d) d (λ is. (let at = there b (rest ∙ ap Some is) in (suc at.0, at.1))) same

-- the first page of those that pass passes
pub least_passes : (p : Buf → Bool) (bufs : List Buf) (b : Buf) → least_page (filter p bufs) ≡ Some b → p b ≡ true
least_passes p bufs b is =
    let there = least_there (filter p bufs) b is in
    (filter_there p bufs there.0 b there.1).2
