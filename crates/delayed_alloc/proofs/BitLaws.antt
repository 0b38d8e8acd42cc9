-- What becomes of a set of bits when one is set or cleared, and which number is the least.
use Rattle.std.proofs.Common.{◌≡◌, ◌≢◌, ℕ, zero, suc, ◌+◌, ◌-◌, ◌*◌, ◌/◌, ◌%◌, ◌^◌, ◌<◌, ◌≤◌, Bool, true, false, List, length, get_or, set, refl, sym, ap, ◌∙◌, subst, inl, inr, arith, get_or-set_same, get_or-set_other, w64}
use Rattle.std.specs.Prelude.{◌==◌, bit_and, bit_or, if◌then◌else◌}
use Rattle.std.specs.Int.{bit_at, bit_not, trailing_zeros}
use Rattle.std.specs.Int.Bits.{and_zero_l}
use Rattle.std.proofs.lemmas.Bool.{cases_eq, cases_lt}
use Rattle.std.proofs.lemmas.List.{get_or_past}
use Rattle.std.proofs.lemmas.Bool.Decides.{eqb_tells, nat_tests}
use Rattle.std.proofs.lemmas.Nat.{pow-add}
use Rattle.std.proofs.Math.Nat.{div-div-eq-div-mul, div-le_self}
use Rattle.std.proofs.lemmas.Nat.Bits.{bit_at-zero, bit_at-suc, bit_at_above, bit_at_set_same, bit_at_set_other, bit_at_clear_same, bit_at_clear_other, bit_at-trailing_zeros}
use Rattle.delayed_alloc.specs.Bits.{is_set, with_bit, without_bit, AreTops, IsFirstSet, IsNextSet}

-- a word with a bit set isn't 0
bit-positive : (word k : ℕ) → bit_at word k ≡ 1 → 0 < word
bit-positive zero k h = let no = bit_at-zero k in absurd (omega arith)
bit-positive (suc word) k h = omega arith

is_set-with_bit-same : (words : List ℕ) (i : ℕ) → i < 64 * length words → is_set (with_bit words i) i ≡ true
unfolding with_bit
is_set-with_bit-same words i within =
    let inside : i / 64 < length words = omega arith in
    rw (
      get_or-set_same words (i / 64) (bit_or (get_or words (i / 64) 0) (1 * 2 ^ (i % 64) % 2 ^ 64)) 0 inside,
      bit_at_set_same w64 (get_or words (i / 64) 0) (i % 64) (omega arith),
    ) refl

is_set-with_bit-other : (words : List ℕ) (i k : ℕ) → i < 64 * length words → k ≢ i
    → is_set (with_bit words i) k ≡ is_set words k
unfolding with_bit
is_set-with_bit-other words i k within other =
    let inside : i / 64 < length words = omega arith in
    let word = bit_or (get_or words (i / 64) 0) (1 * 2 ^ (i % 64) % 2 ^ 64) in
    elim (cases_eq (k / 64) (i / 64)) [
      | inl same ↦
          let apart : k % 64 ≢ i % 64 = omega (arith, other) in
          rw same
          (rw (
            get_or-set_same words (i / 64) word 0 inside,
            bit_at_set_other w64 (get_or words (i / 64) 0) (i % 64) (omega arith) (k % 64) apart,
          ) refl)
      | inr apart ↦ rw (get_or-set_other words (i / 64) (k / 64) word 0 apart) refl
    ]

pub is_set-with_bit : (words : List ℕ) (i : ℕ) → i < 64 * length words → (k : ℕ)
    → is_set (with_bit words i) k ≡ (if k == i then true else is_set words k)
is_set-with_bit words i within k =
    elim (eqb_tells k i) [
      | inl here ↦ rw here.0 (rw here.1 (is_set-with_bit-same words i within))
      | inr other ↦ rw other.0 (is_set-with_bit-other words i k within other.1)
    ]

is_set-without_bit-same : (words : List ℕ) (i : ℕ) → i < 64 * length words → is_set (without_bit words i) i ≡ false
unfolding without_bit
is_set-without_bit-same words i within =
    let inside : i / 64 < length words = omega arith in
    rw (
      get_or-set_same words (i / 64) (bit_and (get_or words (i / 64) 0) (bit_not w64 (1 * 2 ^ (i % 64) % 2 ^ 64))) 0
          inside,
      bit_at_clear_same w64 (get_or words (i / 64) 0) (i % 64) (omega arith),
    ) refl

is_set-without_bit-other : (words : List ℕ) (i k : ℕ) → i < 64 * length words → k ≢ i
    → is_set (without_bit words i) k ≡ is_set words k
unfolding without_bit
is_set-without_bit-other words i k within other =
    let inside : i / 64 < length words = omega arith in
    let word = bit_and (get_or words (i / 64) 0) (bit_not w64 (1 * 2 ^ (i % 64) % 2 ^ 64)) in
    elim (cases_eq (k / 64) (i / 64)) [
      | inl same ↦
          let apart : k % 64 ≢ i % 64 = omega (arith, other) in
          rw same
          (rw (
            get_or-set_same words (i / 64) word 0 inside,
            bit_at_clear_other w64 (get_or words (i / 64) 0) (i % 64) (omega arith) (k % 64) (omega arith) apart,
          )
          refl)
      | inr apart ↦ rw (get_or-set_other words (i / 64) (k / 64) word 0 apart) refl
    ]

pub is_set-without_bit : (words : List ℕ) (i : ℕ) → i < 64 * length words → (k : ℕ)
    → is_set (without_bit words i) k ≡ (if k == i then false else is_set words k)
is_set-without_bit words i within k =
    elim (eqb_tells k i) [
      | inl here ↦ rw here.0 (rw here.1 (is_set-without_bit-same words i within))
      | inr other ↦ rw other.0 (is_set-without_bit-other words i k within other.1)
    ]

-- the word of a bit that is set isn't 0
pub set-positive : (words : List ℕ) (i : ℕ) → is_set words i ≡ true → 0 < get_or words (i / 64) 0
set-positive words i h = bit-positive (get_or words (i / 64) 0) (i % 64) (grind (arith, nat_tests))

-- in a word that is 0 no bit is set
pub set-none : (words : List ℕ) (i : ℕ) → get_or words (i / 64) 0 ≡ 0 → is_set words i ≡ false
set-none words i h = rw (h, bit_at-zero (i % 64)) refl

other_word : (words : List ℕ) (i k : ℕ) → k ≢ i / 64 → get_or (with_bit words i) k 0 ≡ get_or words k 0
unfolding with_bit
other_word words i k other = get_or-set_other words (i / 64) k
    (bit_or (get_or words (i / 64) 0) (1 * 2 ^ (i % 64) % 2 ^ 64)) 0 other

other_word_cleared : (words : List ℕ) (i k : ℕ) → k ≢ i / 64 → get_or (without_bit words i) k 0 ≡ get_or words k 0
unfolding without_bit
other_word_cleared words i k other = get_or-set_other words (i / 64) k
    (bit_and (get_or words (i / 64) 0) (bit_not w64 (1 * 2 ^ (i % 64) % 2 ^ 64))) 0 other

-- a bit that is set comes with its bit on top
pub tops-set : (words tops : List ℕ) (i : ℕ) → i < 64 * length words → length words ≤ 64 * length tops
    → AreTops words tops
    → AreTops (with_bit words i) (with_bit tops (i / 64))
tops-set words tops i within few are k =
    let top_within : i / 64 < 64 * length tops = omega arith in
    rw (is_set-with_bit tops (i / 64) top_within k)
    (elim (eqb_tells k (i / 64)) [
      | inl here ↦
          let some : 0 < get_or (with_bit words i) (i / 64) 0 =
          set-positive (with_bit words i) i (is_set-with_bit-same words i within) in
          rw here.0 (rw here.1 (grind (arith, nat_tests)))
      | inr other ↦ rw other.0 (rw (other_word words i k other.1) (are k))
    ])

-- the last bit of a word goes with its bit on top
pub tops-cleared : (words tops : List ℕ) (i : ℕ) → i < 64 * length words → length words ≤ 64 * length tops
    → get_or (without_bit words i) (i / 64) 0 ≡ 0 → AreTops words tops
    → AreTops (without_bit words i) (without_bit tops (i / 64))
tops-cleared words tops i within few gone are k =
    let top_within : i / 64 < 64 * length tops = omega arith in
    rw (is_set-without_bit tops (i / 64) top_within k)
    (elim (eqb_tells k (i / 64)) [
      | inl here ↦ rw here.0 (rw (here.1, gone) refl)
      | inr other ↦ rw other.0 (rw (other_word_cleared words i k other.1) (are k))
    ])

and-positive : (a b : ℕ) → 0 < bit_and a b → 0 < a
and-positive zero b h = let no = and_zero_l b in absurd (omega arith)
and-positive (suc a) b h = omega arith

-- a word that has bits left had some before
left-positive : (words : List ℕ) (i : ℕ) → i < 64 * length words → 0 < get_or (without_bit words i) (i / 64) 0
    → 0 < get_or words (i / 64) 0
unfolding without_bit
left-positive words i within some =
    let word = bit_and (get_or words (i / 64) 0) (bit_not w64 (1 * 2 ^ (i % 64) % 2 ^ 64)) in
    let inside : i / 64 < length words = omega arith in
    let left : get_or (set words (i / 64) word) (i / 64) 0 ≡ word = get_or-set_same words (i / 64) word 0 inside in
    and-positive (get_or words (i / 64) 0) (bit_not w64 (1 * 2 ^ (i % 64) % 2 ^ 64)) (subst (λ w. 0 < w) left some)

-- where a word still has bits, its bit on top stays
pub tops-kept : (words tops : List ℕ) (i : ℕ) → i < 64 * length words → 0 < get_or (without_bit words i) (i / 64) 0
    → AreTops words tops
    → AreTops (without_bit words i) tops
tops-kept words tops i within some are k =
    elim (eqb_tells k (i / 64)) [
      | inl here ↦
          let was : 0 < get_or words (i / 64) 0 = left-positive words i within some in
          are k ∙ rw here.1 (grind (arith, nat_tests))
      | inr other ↦ rw (other_word_cleared words i k other.1) (are k)
    ]

-- a bit of a shifted word
pub shifted : (w k i : ℕ) → bit_at (w / 2 ^ k) i ≡ bit_at w (k + i)
shifted w k i = ap (λ n. n % 2) (div-div-eq-div-mul w (2 ^ k) (2 ^ i) ∙ ap (λ d. w / d) (sym (pow-add 2 k i)))

-- where the shifted word is 0, nothing is in the set to the end of the word
pub rest-none : (words : List ℕ) (from : ℕ) → get_or words (from / 64) 0 / 2 ^ (from % 64) ≡ 0
    → (k : ℕ) → from ≤ k → k < 64 * (from / 64) + 64 → is_set words k ≡ false
rest-none words from none k low high =
    let word : k / 64 ≡ from / 64 = omega arith in
    let place : k % 64 ≡ from % 64 + (k - from) = omega arith in
    rw (word, place, ← shifted (get_or words (from / 64) 0) (from % 64) (k - from), none, bit_at-zero (k - from)) refl

-- the lowest bit of the shifted word is the next of the set
pub rest-next : (words : List ℕ) (from : ℕ) → 0 < get_or words (from / 64) 0 / 2 ^ (from % 64)
    → get_or words (from / 64) 0 < 2 ^ 64
    → IsNextSet words from (from + trailing_zeros w64 (get_or words (from / 64) 0 / 2 ^ (from % 64)))
rest-next words from some fits =
    let word = get_or words (from / 64) 0 in
    let place = from % 64 in
    let zeros = trailing_zeros w64 (word / 2 ^ place) in
    let lowest = bit_at-trailing_zeros w64 (word / 2 ^ place) some
    (omega (arith, div-le_self word (2 ^ place), fits)) in
    let within : place + zeros < 64 = elim (cases_lt (place + zeros) 64) [
      | inl inside ↦ inside
      | inr above ↦ absurd (omega (
        arith,
        lowest.1,
        shifted word place zeros,
        bit_at_above word 64 (place + zeros) fits above,
      ))
    ] in
    let same_word : (from + zeros) / 64 ≡ from / 64 = omega arith in
    let same_place : (from + zeros) % 64 ≡ place + zeros = omega arith in
    record {
      set = rw (same_word, same_place, ← shifted word place zeros, lowest.1) refl;
      low = omega arith;
      least = λ k low high.
          let k_word : k / 64 ≡ from / 64 = omega arith in
          let k_place : k % 64 ≡ place + (k - from) = omega arith in
          let lower : k - from < zeros = omega arith in
          rw (k_word, k_place, ← shifted word place (k - from), lowest.2 (k - from) lower) refl;
    }

-- the lowest bit of the next word that isn't 0 is the next of the set
pub next-of_word : (words : List ℕ) (from at : ℕ) → 0 < get_or words at 0 → get_or words at 0 < 2 ^ 64
    → from / 64 + 1 ≤ at
    → ((k : ℕ) → from ≤ k → k < 64 * (from / 64) + 64 → is_set words k ≡ false)
    → ((k : ℕ) → from / 64 + 1 ≤ k → k < at → get_or words k 0 ≡ 0)
    → IsNextSet words from (64 * at + trailing_zeros w64 (get_or words at 0))
next-of_word words from at some fits behind none clear =
    let zeros = trailing_zeros w64 (get_or words at 0) in
    let lowest = bit_at-trailing_zeros w64 (get_or words at 0) some fits in
    let few : zeros < 64 = lowest.0 in
    let word : (64 * at + zeros) / 64 ≡ at = omega arith in
    let bit : (64 * at + zeros) % 64 ≡ zeros = omega arith in
    record {
      set = rw (word, bit) (rw lowest.1 refl);
      low = omega arith;
      least = λ k low high. elim (cases_lt k (64 * (from / 64) + 64)) [
        | inl here ↦ none k low here
        | inr later ↦ elim (cases_eq (k / 64) at) [
          | inl same ↦
              let lower : k % 64 < zeros = omega arith in
              rw same (rw (lowest.2 (k % 64) lower) refl)
          | inr other ↦ set-none words k (clear (k / 64) (omega arith) (omega (arith, other)))
        ]
      ];
    }

-- the next from 0 on is the least of all
pub first-of_next : (words : List ℕ) (i : ℕ) → IsNextSet words 0 i → IsFirstSet words i
first-of_next words i next = record {
  set = next.set;
  least = λ k lower. next.least k (omega arith) lower;
}

-- the rest of a word behind its lowest bit
pub rest-after : (rest place i : ℕ) → bit_at (rest / 2 ^ place / 2) i ≡ bit_at rest (place + 1 + i)
rest-after rest place i =
    let next : place + 1 + i ≡ place + suc i = omega arith in
    sym (bit_at-suc (rest / 2 ^ place) i) ∙ shifted rest place (suc i) ∙ ap (bit_at rest) (sym next)

-- the least bit of the first word that isn't 0 is the least of all
pub first-of_word : (words : List ℕ) (at : ℕ) → 0 < get_or words at 0 → get_or words at 0 < 2 ^ 64
    → ((k : ℕ) → k < at → get_or words k 0 ≡ 0)
    → IsFirstSet words (64 * at + trailing_zeros w64 (get_or words at 0))
first-of_word words at some fits below =
    let zeros = trailing_zeros w64 (get_or words at 0) in
    let lowest = bit_at-trailing_zeros w64 (get_or words at 0) some fits in
    let few : zeros < 64 = lowest.0 in
    let word : (64 * at + zeros) / 64 ≡ at = omega arith in
    let bit : (64 * at + zeros) % 64 ≡ zeros = omega arith in
    record {
      set = rw (word, bit) (rw lowest.1 refl);
      least = λ k lower. elim (cases_eq (k / 64) at) [
        | inl same ↦
            let low : k % 64 < zeros = omega arith in
            rw same (rw (lowest.2 (k % 64) low) refl)
        | inr other ↦ set-none words k (below (k / 64) (omega (arith, other)))
      ];
    }

-- a bit on top stands for a word that is there
pub word-within : (words tops : List ℕ) (at : ℕ) → AreTops words tops → is_set tops at ≡ true → at < length words
word-within words tops at are set =
    elim (cases_lt at (length words)) [
      | inl inside ↦ inside
      | inr past ↦ let no : get_or words at 0 ≡ 0 = get_or_past words at 0 past in let e = are at in
          absurd (grind (arith, nat_tests))
    ]

-- a bit on top leads to the least bit of all
pub first-of_tops : (words tops : List ℕ) (at : ℕ) → AreTops words tops → IsFirstSet tops at
    → get_or words at 0 < 2 ^ 64
    → IsFirstSet words (64 * at + trailing_zeros w64 (get_or words at 0))
first-of_tops words tops at are top fits =
    let some : 0 < get_or words at 0 = let e = are at in let h = top.set in grind (arith, nat_tests) in
    first-of_word words at some fits (λ k below. let e = are k in let h = top.least k below in grind (arith, nat_tests))

-- the lowest bit of a word that isn't 0
pub lowest-of : (word place : ℕ) → 0 < word → word < 2 ^ 64 → place ≡ trailing_zeros w64 word
    → (bit_at word place ≡ 1) × ((k : ℕ) → k < place → bit_at word k ≡ 0)
lowest-of word place some fits is =
    let lowest = bit_at-trailing_zeros w64 word some fits in
    (rw is lowest.1, λ k lower. lowest.2 k (rw is at lower))

-- the number that is taken out isn't in the set
pub cleared-here : (was is : ℕ → Bool) (i : ℕ) → ((k : ℕ) → is k ≡ (if k == i then false else was k)) → is i ≡ false
cleared-here was is i bits = rw (bits i) (grind (arith, nat_tests))
