-- How many marks stand below a place, counted by words.
use Rattle.std.proofs.Common.{◌≡◌, ℕ, zero, suc, ◌+◌, ◌-◌, ◌*◌, ◌/◌, ◌%◌, ◌^◌, ◌<◌, ◌≤◌, min, Bool, cond, List, [], ◌∷◌, ◌++◌, length, refl, ap, sym, ◌∙◌, arith, get_or, inl, inr}
use Rattle.std.specs.Prelude.{◌==◌, filter, nat_lt, count_ones}
use Rattle.std.specs.Int.{bit_at}
use Rattle.std.specs.Int.Count.{ones_step}
use Rattle.std.specs.List.{range_with_len}
use Rattle.std.proofs.lemmas.Bool.{cases_lt}
use Rattle.std.proofs.lemmas.List.{length-append}
use Rattle.std.proofs.lemmas.List.Elements.{filter-append}
use Rattle.std.proofs.lemmas.Bool.Decides.{nat_tests}
use Rattle.std.proofs.lemmas.Nat.Bits.{bit_at-suc, bit_at_lowest}
use Rattle.std.proofs.lemmas.Nat.{mod-pow-add, ones_le_self}
use Rattle.split_types.specs.Sets.{pids}
use Rattle.split_types.specs.Share.{rank}
use Rattle.split_types.proofs.Shared.{filter-same, has-range}
use Rattle.cause_set.specs.Marks.{is_marked, marked}

-- a number's lowest bits: the lowest one, and the bits above it
low_bits : (w m : ℕ) → w % 2 ^ suc m ≡ w / 2 % 2 ^ m * 2 + w % 2
low_bits w m = let e : suc m ≡ m + 1 = omega arith in rw e (mod-pow-add w m 1)

low_bit : (w m : ℕ) → w % 2 ^ suc m % 2 ≡ w % 2
low_bit w m = omega (arith, low_bits w m)

high_bits : (w m : ℕ) → w % 2 ^ suc m / 2 ≡ w / 2 % 2 ^ m
high_bits w m = omega (arith, low_bits w m)

counted : (d x : ℕ) (xs : List ℕ) → d < 2 → length (cond (d == 1) (x ∷ xs) xs) ≡ d + length xs
counted zero x xs l = omega arith
counted (suc zero) x xs l = omega arith
counted (suc (suc d)) x xs l = absurd (omega arith)

-- the lowest m bits that are set, as the numbers of a range
ones_bits : (m w a : ℕ) → count_ones (w % 2 ^ m) ≡ length (filter (λ q. bit_at w (q - a) == 1) (range_with_len a m))
ones_bits zero w a = let e : w % 1 ≡ 0 = omega arith in rw e (omega (arith, ones_le_self 0))
ones_bits (suc m) w a =
    let same : filter (λ q. bit_at w (q - a) == 1) (range_with_len (a + 1) m)
    ≡ filter (λ q. bit_at (w / 2) (q - (a + 1)) == 1) (range_with_len (a + 1) m) =
    filter-same (λ q. bit_at w (q - a) == 1) (λ q. bit_at (w / 2) (q - (a + 1)) == 1) (range_with_len (a + 1) m)
    (λ q h.
    let above : a + 1 ≤ q = grind (arith, nat_tests, has-range (a + 1) m q) in
    let next : q - a ≡ suc (q - (a + 1)) = omega arith in
    rw (next, bit_at-suc w (q - (a + 1))) refl) in
    let top : count_ones (w % 2 ^ suc m) ≡ w % 2 + count_ones (w / 2 % 2 ^ m) =
    ones_step (w % 2 ^ suc m) ∙ ap (λ x. x + count_ones (w % 2 ^ suc m / 2)) (low_bit w m)
    ∙ ap (λ y. w % 2 + count_ones y) (high_bits w m) in
    let rest = filter (λ q. bit_at w (q - a) == 1) (range_with_len (a + 1) m) in
    let first : a - a ≡ 0 = omega arith in
    let here : length (cond (bit_at w (a - a) == 1) (a ∷ rest) rest) ≡ w % 2 + length rest =
    ap (λ i. length (cond (bit_at w i == 1) (a ∷ rest) rest)) first
    ∙ ap (λ d. length (cond (d == 1) (a ∷ rest) rest)) (bit_at_lowest w)
    ∙ counted (w % 2) a rest (omega arith) in
    top ∙ ap (λ n. w % 2 + n) (ones_bits m (w / 2) (a + 1) ∙ ap length (sym same)) ∙ sym here

-- a range is its front and the rest
pub range-split : (a m n : ℕ) → range_with_len a (m + n) ≡ range_with_len a m ++ range_with_len (a + m) n
range-split a zero n =
    let none : 0 + n ≡ n = omega arith in
    let same : a + 0 ≡ a = omega arith in
    rw (none, same) refl
range-split a (suc m) n =
    let more : suc m + n ≡ suc (m + n) = omega arith in
    let next : a + suc m ≡ a + 1 + m = omega arith in
    rw (more, next) (ap (λ l. a ∷ l) (range-split (a + 1) m n))

-- the marks of one word
word_bits : (words : List ℕ) (k a m : ℕ) → a ≡ 64 * k + 1 → m ≤ 64
    → filter (is_marked words) (range_with_len a m)
    ≡ filter (λ q. bit_at (get_or words k 0) (q - a) == 1) (range_with_len a m)
word_bits words k a m start within =
    filter-same (is_marked words) (λ q. bit_at (get_or words k 0) (q - a) == 1) (range_with_len a m)
    (λ q h.
    let low : a ≤ q = grind (arith, nat_tests, has-range a m q) in
    let high : q < a + m = grind (arith, nat_tests, has-range a m q) in
    let word : (q - 1) / 64 ≡ k = omega arith in
    let place : (q - 1) % 64 ≡ q - a = omega arith in
    rw (word, place) refl)

word_count : (words : List ℕ) (k a m : ℕ) → a ≡ 64 * k + 1 → m ≤ 64
    → length (filter (is_marked words) (range_with_len a m)) ≡ count_ones (get_or words k 0 % 2 ^ m)
word_count words k a m start within =
    ap length (word_bits words k a m start within) ∙ sym (ones_bits m (get_or words k 0) a)

-- the marks from the first place of a word on: those of the word, and those of the words behind it
piece : (words : List ℕ) (k a b n r : ℕ) → a ≡ 64 * k + 1 → b ≡ a + 64 → r ≡ n - 64 →
    length (filter (is_marked words) (range_with_len a n))
    ≡ count_ones (get_or words k 0 % 2 ^ min n 64) + length (filter (is_marked words) (range_with_len b r))
piece words k a b n r start next left =
    elim (cases_lt n 64) [
      | inl small ↦
          let none : r ≡ 0 = omega arith in
          let all : min n 64 ≡ n = omega arith in
          rw (none, all) (word_count words k a n start (omega arith) ∙ omega arith)
      | inr large ↦
          let more : n ≡ 64 + r = omega arith in
          let all : min n 64 ≡ 64 = omega arith in
          rw (all, next) (ap (λ i. length (filter (is_marked words) (range_with_len a i))) more
          ∙ ap (λ l. length (filter (is_marked words) l)) (range-split a 64 r)
          ∙ ap length (filter-append (is_marked words) (range_with_len a 64) (range_with_len (a + 64) r))
          ∙ length-append (filter (is_marked words) (range_with_len a 64))
          (filter (is_marked words) (range_with_len (a + 64) r))
          ∙ ap (λ i. i + length (filter (is_marked words) (range_with_len (a + 64) r)))
          (word_count words k a 64 start (omega arith)))
    ]

-- the marks of the first processes, counted by the four words
pub marks-counted : (words : List ℕ) (n : ℕ) → n ≤ 256 →
    count_ones (get_or words 0 0 % 2 ^ min n 64) + count_ones (get_or words 1 0 % 2 ^ min (n - 64) 64)
    + count_ones (get_or words 2 0 % 2 ^ min (n - 128) 64) + count_ones (get_or words 3 0 % 2 ^ min (n - 192) 64)
    ≡ length (filter (is_marked words) (range_with_len 1 n))
marks-counted words n within =
    let last = piece words 3 193 257 (n - 192) 0 refl refl (omega arith) in
    omega (
      arith,
      piece words 0 1 65 n (n - 64) refl refl refl,
      piece words 1 65 129 (n - 64) (n - 128) refl refl (omega arith),
      piece words 2 129 193 (n - 128) (n - 192) refl refl (omega arith),
      last,
    )

-- those below a process among what is left of a range: the range ends before the process
below : (f : ℕ → Bool) (p a n : ℕ)
    → filter (λ q. nat_lt q p) (filter f (range_with_len a n)) ≡ filter f (range_with_len a (min (p - a) n))
below f p a zero = let none : min (p - a) 0 ≡ 0 = omega arith in rw none refl
below f p a (suc n) =
    elim (cases_lt a p) [
      | inl before ↦
          let more : min (p - a) (suc n) ≡ suc (min (p - (a + 1)) n) = omega arith in
          rw more (grind (arith, nat_tests, below f p (a + 1) n))
      | inr behind ↦
          let none : min (p - a) (suc n) ≡ 0 = omega arith in
          let later : min (p - (a + 1)) n ≡ 0 = omega arith in
          let rest : filter (λ q. nat_lt q p) (filter f (range_with_len (a + 1) n)) ≡ [] =
          below f p (a + 1) n ∙ ap (λ i. filter f (range_with_len (a + 1) i)) later in
          rw none (grind (arith, nat_tests, rest))
    ]

pub rank-marked : (words : List ℕ) (p : ℕ)
    → rank (marked words) p ≡ length (filter (is_marked words) (range_with_len 1 (min (p - 1) 256)))
unfolding pids
rank-marked words p = ap length (below (is_marked words) p 1 256)

pub length-marked : (words : List ℕ) → length (marked words) ≡ length (filter (is_marked words) (range_with_len 1 256))
unfolding pids
length-marked words = refl
