-- What holds of a page of one byte of which some bytes were written over.
use Rattle.std.proofs.Common.{◌≡◌, ℕ, ◌+◌, ◌-◌, ◌*◌, ◌≤◌, List, ◌++◌, take, drop, length, length-append, replicate, arith, ap, sym, ◌∙◌}
use Rattle.std.specs.Prelude.{sum, slice_range}
use Rattle.std.proofs.lemmas.List.{take-replicate, drop-replicate, take-append-le, take-append-drop, length-replicate}
use Rattle.std.proofs.Math.Seq.{take-append-add, drop-append-add}
use Rattle.std.proofs.lemmas.List.Sums.{sum_by-append}
use Rattle.std.proofs.lemmas.List.Folds.{sum_by-replicate, drop_split}
use Rattle.page_cache.specs.Bytes.{filled, patched}

-- a page of one byte, written over once
pub patch-new : (base from to byte : ℕ) → from ≤ to → to ≤ 4096
    → patched base from to byte ≡ filled (replicate 4096 base) from to byte
patch-new base from to byte order within =
    let all = replicate 4096 base in
    let first : take from all ≡ replicate from base = take-replicate from 4096 base (omega (arith, order, within)) in
    let last : drop to all ≡ replicate (4096 - to) base = drop-replicate to 4096 base in
    sym
    (ap (λ xs. xs ++ replicate (to - from) byte ++ drop to all) first
    ∙ ap (λ xs. replicate from base ++ replicate (to - from) byte ++ xs) last)

-- the sum of bytes that are all the same
pub sum-same : (n byte : ℕ) → sum (replicate n byte) ≡ n * byte
sum-same n byte = sum_by-replicate (λ m. m) n byte

sum-parts : (xs : List ℕ) (n : ℕ) → sum xs ≡ sum (take n xs) + sum (drop n xs)
sum-parts xs n = ap sum (sym (take-append-drop n xs)) ∙ sum_by-append (λ m. m) (take n xs) (drop n xs)

-- the sum of some bytes, by what comes before them
pub sum-between : (xs : List ℕ) (from to : ℕ) → from ≤ to
    → sum (take to xs) ≡ sum (take from xs) + sum (slice_range xs from to)
sum-between xs from to order =
    let rest : sum (drop from xs) ≡ sum (slice_range xs from to) + sum (drop to xs) =
    ap sum (drop_split xs from to order) ∙ sum_by-append (λ m. m) (slice_range xs from to) (drop to xs) in
    omega (arith, sum-parts xs from, sum-parts xs to, rest)

module _ (base f t x : ℕ) (order : f ≤ t) where
  begin-len : length (replicate f base ++ replicate (t - f) x) ≡ t
  begin-len =
      length-append (replicate f base) (replicate (t - f) x)
      ∙ omega (arith, length-replicate f base, length-replicate (t - f) x, order)

  pub patch-len : t ≤ 4096 → length (patched base f t x) ≡ 4096
  patch-len within =
      length-append (replicate f base ++ replicate (t - f) x) (replicate (4096 - t) base)
      ∙ omega (arith, begin-len, length-replicate (4096 - t) base, within)

  take-low : (n : ℕ) → n ≤ f → take n (patched base f t x) ≡ replicate n base
  take-low n low =
      take-append-le n (replicate f base ++ replicate (t - f) x) (replicate (4096 - t) base)
      (omega (arith, begin-len, low, order))
      ∙ take-append-le n (replicate f base) (replicate (t - f) x) (omega (arith, length-replicate f base, low))
      ∙ take-replicate n f base low

  take-middle : (n : ℕ) → f ≤ n → n ≤ t → take n (patched base f t x) ≡ replicate f base ++ replicate (n - f) x
  take-middle n low high =
      let first = replicate f base in
      let more : n ≡ length first + (n - f) = omega (arith, length-replicate f base, low) in
      take-append-le n (first ++ replicate (t - f) x) (replicate (4096 - t) base) (omega (arith, begin-len, high))
      ∙ ap (λ m. take m (first ++ replicate (t - f) x)) more
      ∙ take-append-add first (replicate (t - f) x) (n - f)
      ∙ ap (λ ys. first ++ ys) (take-replicate (n - f) (t - f) x (omega (arith, low, high)))

  take-high : (n : ℕ) → t ≤ n → n ≤ 4096
      → take n (patched base f t x) ≡ replicate f base ++ replicate (t - f) x ++ replicate (n - t) base
  take-high n low high =
      let begin = replicate f base ++ replicate (t - f) x in
      let more : n ≡ length begin + (n - t) = omega (arith, begin-len, low) in
      ap (λ m. take m (begin ++ replicate (4096 - t) base)) more
      ∙ take-append-add begin (replicate (4096 - t) base) (n - t)
      ∙ ap (λ ys. begin ++ ys) (take-replicate (n - t) (4096 - t) base (omega (arith, low, high)))

  sum-begin : (n : ℕ) → sum (replicate f base ++ replicate n x) ≡ f * base + n * x
  sum-begin n =
      sum_by-append (λ m. m) (replicate f base) (replicate n x)
      ∙ ap (λ s. s + sum (replicate n x)) (sum-same f base)
      ∙ ap (λ s. f * base + s) (sum-same n x)

  -- the sum up to a place
  pub sum-low : (n : ℕ) → n ≤ f → n * base ≡ sum (take n (patched base f t x))
  sum-low n low = sym (ap sum (take-low n low) ∙ sum-same n base)

  pub sum-middle : (n : ℕ) → f ≤ n → n ≤ t → f * base + (n - f) * x ≡ sum (take n (patched base f t x))
  sum-middle n low high = sym (ap sum (take-middle n low high) ∙ sum-begin (n - f))

  pub sum-high : (n : ℕ) → t ≤ n → n ≤ 4096
      → f * base + (t - f) * x + (n - t) * base ≡ sum (take n (patched base f t x))
  sum-high n low high =
      let begin = replicate f base ++ replicate (t - f) x in
      sym
      (ap sum (take-high n low high)
      ∙ sum_by-append (λ m. m) begin (replicate (n - t) base)
      ∙ ap (λ s. s + sum (replicate (n - t) base)) (sum-begin (t - f))
      ∙ ap (λ s. f * base + (t - f) * x + s) (sum-same (n - t) base))

  -- what was written before is written over
  pub patch-covered : (from to byte : ℕ) → from ≤ f → t ≤ to → to ≤ 4096
      → patched base from to byte ≡ filled (patched base f t x) from to byte
  patch-covered from to byte low high within =
      let begin = replicate f base ++ replicate (t - f) x in
      let all = patched base f t x in
      let more : to ≡ length begin + (to - t) = omega (arith, begin-len, high) in
      let left : 4096 - t - (to - t) ≡ 4096 - to = omega (arith, high, within) in
      let last : drop to all ≡ replicate (4096 - to) base =
      ap (λ m. drop m (begin ++ replicate (4096 - t) base)) more
      ∙ drop-append-add begin (replicate (4096 - t) base) (to - t)
      ∙ drop-replicate (to - t) (4096 - t) base
      ∙ ap (λ m. replicate m base) left in
      sym
      (ap (λ xs. xs ++ replicate (to - from) byte ++ drop to all) (take-low from low)
      ∙ ap (λ xs. replicate from base ++ replicate (to - from) byte ++ xs) last)
