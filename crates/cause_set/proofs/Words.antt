-- The words of a set in memory are those that the set gives back.
use Rattle.std.proofs.Common.{◌≡◌, ℕ, zero, suc, ◌+◌, ◌-◌, ◌*◌, ◌/◌, ◌%◌, ◌^◌, ◌<◌, ◌≤◌, Bool, cond, List, [], ◌∷◌, refl, ap, ◌∙◌, arith, length, subst, get_or, set, inl, inr}
use Rattle.std.specs.Prelude.{◌==◌, ◌&&◌, nat_le}
use Rattle.std.specs.Int.{bit_at}
use Rattle.std.proofs.lemmas.Grind.{common_steps}
use Rattle.std.proofs.lemmas.List.{get_or-set_same, get_or-set_other, length-set}
use Rattle.std.proofs.lemmas.Bool.{cases_eq}
use Rattle.std.proofs.lemmas.Bool.Decides.{nat_tests}
use Rattle.std.proofs.lemmas.Nat.{one_shl, or_lt, pow_below}
use Rattle.std.proofs.Math.Nat.{pow-suc}
use Rattle.std.proofs.lemmas.Nat.Bits.{bit_at_lowest, bit_at-suc, same_from_bits_below, bit_at-lt}
use Rattle.split_types.specs.Sets.{has}
use Rattle.cause_set.specs.Marks.{is_marked, marked, AreMarks, number_of, word_of, words_of}
use Rattle.cause_set.proofs.Marks.{held, no_marks, zeros, joined}

-- there are four words of 64 bits
record AreWords (words : List ℕ) : Type 0 where
  size : length words ≡ 4
  fits : (k : ℕ) → get_or words k 0 < 2 ^ 64

-- ---- a set gives its words back

number-lt : (f : ℕ → Bool) (n : ℕ) → number_of f n < 2 ^ n
number-lt f zero = omega arith
number-lt f (suc n) = grind (arith, nat_tests, number-lt (λ i. f (i + 1)) n, pow-suc 2 n)

number-bit : (f : ℕ → Bool) (n i : ℕ) → i < n → bit_at (number_of f n) i ≡ cond (f i) 1 0
number-bit f zero i l = absurd (omega arith)
number-bit f (suc n) zero l = bit_at_lowest (number_of f (suc n)) ∙ grind (arith, nat_tests)
number-bit f (suc n) (suc i) l =
    let half : number_of f (suc n) / 2 ≡ number_of (λ j. f (j + 1)) n = grind (arith, nat_tests) in
    let next : i + 1 ≡ suc i = omega arith in
    bit_at-suc (number_of f (suc n)) i ∙ ap (λ w. bit_at w i) half ∙ number-bit (λ j. f (j + 1)) n i (omega arith)
    ∙ ap (λ j. cond (f j) 1 0) next

as_bit : (b p : ℕ) (mark held : Bool) → b < 2 → 1 ≤ p → p ≤ 256 → mark ≡ (b == 1)
    → held ≡ (nat_le 1 p && nat_le p 256 && mark) → cond held 1 0 ≡ b
as_bit zero p mark held l first last is e = grind (arith, nat_tests, is, e)
as_bit (suc zero) p mark held l first last is e = grind (arith, nat_tests, is, e)
as_bit (suc (suc b)) p mark held l first last is e = absurd (omega arith)

bit_back : (words : List ℕ) (k i : ℕ) → k < 4 → i < 64
    → cond (has (marked words) (64 * k + i + 1)) 1 0 ≡ bit_at (get_or words k 0) i
bit_back words k i within low =
    let word : (64 * k + i + 1 - 1) / 64 ≡ k = omega arith in
    let place : (64 * k + i + 1 - 1) % 64 ≡ i = omega arith in
    let mark : is_marked words (64 * k + i + 1) ≡ (bit_at (get_or words k 0) i == 1) = rw (word, place) refl in
    as_bit (bit_at (get_or words k 0) i) (64 * k + i + 1) (is_marked words (64 * k + i + 1))
    (has (marked words) (64 * k + i + 1))
    (bit_at-lt (get_or words k 0) i) (omega arith) (omega arith) mark (held words (64 * k + i + 1))

word-back : (words : List ℕ) (k : ℕ) → AreWords words → k < 4 → word_of (marked words) k ≡ get_or words k 0
unfolding word_of
word-back words k are within =
    same_from_bits_below 64 (word_of (marked words) k) (get_or words k 0)
    (number-lt (λ i. has (marked words) (64 * k + i + 1)) 64) (are.fits k)
    (λ i low. number-bit (λ j. has (marked words) (64 * k + j + 1)) 64 i low ∙ bit_back words k i within low)

four : (words : List ℕ) → length words ≡ 4
    → get_or words 0 0 ∷ get_or words 1 0 ∷ get_or words 2 0 ∷ get_or words 3 0 ∷ [] ≡ words
four words size = grind (arith, common_steps, size)

words-back : (words : List ℕ) → AreWords words → AreMarks words
words-back words are =
    rw (
      word-back words 0 are (omega arith),
      word-back words 1 are (omega arith),
      word-back words 2 are (omega arith),
      word-back words 3 are (omega arith),
    )
    (four words are.size)

-- ---- what stands in memory are words

word-lt : (s : List ℕ) (k : ℕ) → word_of s k < 2 ^ 64
unfolding word_of
word-lt s k = number-lt (λ i. has s (64 * k + i + 1)) 64

words_fit : (s : List ℕ) (k : ℕ) → get_or (words_of s) k 0 < 2 ^ 64
words_fit s zero = word-lt s 0
words_fit s (suc zero) = word-lt s 1
words_fit s (suc (suc zero)) = word-lt s 2
words_fit s (suc (suc (suc zero))) = word-lt s 3
words_fit s (suc (suc (suc (suc k)))) = omega arith

are_words : (words : List ℕ) → AreMarks words → AreWords words
are_words words are =
    let P : List ℕ → Type 0 = λ w. AreWords w in
    subst P are (record { size = refl; fits = λ k. words_fit (marked words) k })

pub no_marks-are : AreMarks no_marks
no_marks-are = words-back no_marks (record { size = refl; fits = λ k. rw (zeros k) (omega arith) })

one_fits : (p k : ℕ) → p < 257 → get_or (set no_marks ((p - 1) / 64) (2 ^ ((p - 1) % 64))) k 0 < 2 ^ 64
one_fits p k within =
    elim (cases_eq k ((p - 1) / 64)) [
      | inl e ↦
          rw (e, get_or-set_same no_marks ((p - 1) / 64) (2 ^ ((p - 1) % 64)) 0 (omega arith))
          (pow_below ((p - 1) % 64) 64 (omega arith))
      | inr n ↦ rw (get_or-set_other no_marks ((p - 1) / 64) k (2 ^ ((p - 1) % 64)) 0 n, zeros k) (omega arith)
    ]

pub one_mark-are : (p : ℕ) → 1 ≤ p → p ≤ 256
    → AreMarks (set no_marks ((p - 1) / 64) (1 * 2 ^ ((p - 1) % 64) % 18446744073709551616))
one_mark-are p first last =
    let shift : 1 * 2 ^ ((p - 1) % 64) % 18446744073709551616 ≡ 2 ^ ((p - 1) % 64) =
    one_shl ((p - 1) % 64) 64 (omega arith) in
    rw shift
    (words-back (set no_marks ((p - 1) / 64) (2 ^ ((p - 1) % 64)))
    (record { size = length-set no_marks ((p - 1) / 64) (2 ^ ((p - 1) % 64)); fits = λ k. one_fits p k (omega arith) }))

joined_fits : (xs ys : List ℕ) (k : ℕ) → AreWords xs → AreWords ys → get_or (joined xs ys) k 0 < 2 ^ 64
joined_fits xs ys zero x y = or_lt 64 (get_or xs 0 0) (get_or ys 0 0) (x.fits 0) (y.fits 0)
joined_fits xs ys (suc zero) x y = or_lt 64 (get_or xs 1 0) (get_or ys 1 0) (x.fits 1) (y.fits 1)
joined_fits xs ys (suc (suc zero)) x y = or_lt 64 (get_or xs 2 0) (get_or ys 2 0) (x.fits 2) (y.fits 2)
joined_fits xs ys (suc (suc (suc zero))) x y = or_lt 64 (get_or xs 3 0) (get_or ys 3 0) (x.fits 3) (y.fits 3)
joined_fits xs ys (suc (suc (suc (suc k)))) x y = omega arith

pub joined-are : (xs ys : List ℕ) → AreMarks xs → AreMarks ys → AreMarks (joined xs ys)
joined-are xs ys x y =
    words-back (joined xs ys)
    (record { size = refl; fits = λ k. joined_fits xs ys k (are_words xs x) (are_words ys y) })
