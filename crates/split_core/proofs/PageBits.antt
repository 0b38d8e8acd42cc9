-- Sets of pages as bits of words: the words that the pages give back, and what becomes of the pages when one bit changes.
use Rattle.std.proofs.Common.{◌≡◌, ◌≢◌, ℕ, zero, suc, ◌+◌, ◌-◌, ◌*◌, ◌/◌, ◌%◌, ◌^◌, ◌<◌, ◌≤◌, Bool, true, false, List, [], ◌∷◌, length, get_or, set, replicate, refl, sym, ap, ◌∙◌, subst, inl, inr, arith, ◌==◌, if◌then◌else◌, eq-eqb, w64}
use Rattle.std.specs.Prelude.{bit_and, bit_or, not, slice_get, Some}
use Rattle.std.specs.List.{list_any}
use Rattle.std.specs.Int.{bit_at, bit_not}
use Rattle.std.proofs.Math.Nat.{pow-suc}
use Rattle.std.proofs.lemmas.Bool.{cases_eq, cases_lt, eqb-true}
use Rattle.std.proofs.lemmas.Bool.Decides.{nat_tests}
use Rattle.std.proofs.lemmas.List.{ext_get_or, get_or_past, get_or-set_same, get_or-set_other, length-set, set-get_or, get_or-replicate, length-replicate}
use Rattle.std.proofs.lemmas.List.Folds.{sum_by-replicate}
use Rattle.std.proofs.lemmas.List.FromFn.{get_or-map-range_with_len, length-map-range_with_len}
use Rattle.std.proofs.lemmas.List.Sums.{sum_by-cons, sum_by-set, count_by-le-length}
use Rattle.std.proofs.lemmas.Option.{slice_get-get_or}
use Rattle.std.proofs.lemmas.Nat.{or_lt, and_le_l}
use Rattle.std.proofs.lemmas.Nat.Bits.{bit_at_lowest, bit_at-suc, bit_at-lt, bit_at-zero, bit_at_set_same, bit_at_set_other, bit_at_clear_same, bit_at_clear_other, same_from_bits_below}
use Rattle.split_types.specs.DiskLayout.{number_of_bits}
use Rattle.split_core.specs.PageSets.{has_page, with_page, without_page, pages_of, words_of, number_of, IsPageSet}

-- there are 16 words of 64 bits, and only pages of a file have their bits
record AreWords (words : List ℕ) : Type 0 where
  size : length words ≡ 16
  fits : (k : ℕ) → get_or words k 0 < 2 ^ 64
  within : (g : ℕ) → 1008 ≤ g → has_page words g ≡ false

-- ---- a number and its bits

abbrev digit : Bool → ℕ
digit b = if b then 1 else 0

digit_most : (b : Bool) → digit b ≤ 1
digit_most true = omega arith
digit_most false = omega arith

digit_is : (n : ℕ) (b : Bool) → n < 2 → (n == 1) ≡ b → digit b ≡ n
digit_is n true lt e = sym (eqb-true n 1 e)
digit_is n false lt e = let apart : n ≢ 1 = λ same. let one : (n == 1) ≡ true = eq-eqb n 1 same in absurd cc in omega
    arith

tested_digit : (b : Bool) → (digit b == 1) ≡ b
tested_digit true = refl
tested_digit false = refl

number-below : (n : ℕ) (f : ℕ → Bool) → number_of_bits n f < 2 ^ n
number-below zero f = omega arith
number-below (suc n) f = let rest = number-below n (λ i. f (i + 1)) in rw pow-suc (omega (arith, digit_most (f 0)))

number-bit : (n : ℕ) (f : ℕ → Bool) (k : ℕ) → k < n → bit_at (number_of_bits n f) k ≡ digit (f k)
number-bit zero f k lt = absurd (omega arith)
number-bit (suc n) f zero lt = bit_at_lowest (number_of_bits (suc n) f) ∙ omega (arith, digit_most (f 0))
number-bit (suc n) f (suc k) lt =
    let half : number_of_bits (suc n) f / 2 ≡ number_of_bits n (λ i. f (i + 1)) = omega (arith, digit_most (f 0)) in
    bit_at-suc (number_of_bits (suc n) f) k ∙ ap (λ (m : ℕ). bit_at m k) half
    ∙ number-bit n (λ i. f (i + 1)) k (omega arith) ∙ ap (λ (i : ℕ). digit (f i)) (omega arith)

-- ---- the words and the pages

abbrev bits_of : List Bool → ℕ → ℕ → Bool
bits_of pages k i = get_or pages (64 * k + i) false

pub length-pages_of : (words : List ℕ) → length (pages_of words) ≡ 1008
unfolding pages_of
length-pages_of words = length-map-range_with_len (has_page words) 0 1008

pub get_or-pages_of : (words : List ℕ) (g : ℕ) → g < 1008 → get_or (pages_of words) g false ≡ has_page words g
unfolding pages_of
get_or-pages_of words g lt = get_or-map-range_with_len (has_page words) 0 1008 g g false lt (omega arith)

length-words_of : (pages : List Bool) → length (words_of pages) ≡ 16
unfolding words_of
length-words_of pages = length-map-range_with_len (λ k. number_of_bits 64 (bits_of pages k)) 0 16

get_or-words_of : (pages : List Bool) (k : ℕ) → k < 16
    → get_or (words_of pages) k 0 ≡ number_of_bits 64 (bits_of pages k)
unfolding words_of
get_or-words_of pages k lt =
    get_or-map-range_with_len (λ k. number_of_bits 64 (bits_of pages k)) 0 16 k k 0 lt (omega arith)

page_read : (words : List ℕ) (g : ℕ) → AreWords words → get_or (pages_of words) g false ≡ has_page words g
page_read words g are =
    elim (cases_lt g 1008) [
      | inl lt ↦ get_or-pages_of words g lt
      | inr past ↦
          get_or_past (pages_of words) g false (omega (arith, length-pages_of words)) ∙ sym (are.within g past)
    ]

bit-back : (words : List ℕ) (k i : ℕ) → AreWords words → i < 64
    → digit (bits_of (pages_of words) k i) ≡ bit_at (get_or words k 0) i
bit-back words k i are low =
    let word : (64 * k + i) / 64 ≡ k = omega arith in
    let place : (64 * k + i) % 64 ≡ i = omega arith in
    let page : has_page words (64 * k + i) ≡ (bit_at (get_or words k 0) i == 1) = rw (word, place) refl in
    ap digit (page_read words (64 * k + i) are ∙ page)
    ∙ digit_is (bit_at (get_or words k 0) i) (bit_at (get_or words k 0) i == 1) (bit_at-lt (get_or words k 0) i) refl

word-back : (words : List ℕ) (k : ℕ) → AreWords words
    → number_of_bits 64 (bits_of (pages_of words) k) ≡ get_or words k 0
word-back words k are =
    same_from_bits_below 64 (number_of_bits 64 (bits_of (pages_of words) k)) (get_or words k 0)
    (number-below 64 (bits_of (pages_of words) k)) (are.fits k)
    (λ i low. number-bit 64 (bits_of (pages_of words) k) i low ∙ bit-back words k i are low)

words-back : (words : List ℕ) → AreWords words → words_of (pages_of words) ≡ words
words-back words are =
    ext_get_or 0 (words_of (pages_of words)) words (length-words_of (pages_of words) ∙ sym are.size)
    (λ k within. get_or-words_of (pages_of words) k (omega (arith, length-words_of (pages_of words)))
    ∙ word-back words k are)

words_fit : (pages : List Bool) (k : ℕ) → get_or (words_of pages) k 0 < 2 ^ 64
words_fit pages k =
    elim (cases_lt k 16) [
      | inl lt ↦ rw (get_or-words_of pages k lt) (number-below 64 (bits_of pages k))
      | inr past ↦ rw (get_or_past (words_of pages) k 0 (omega (arith, length-words_of pages))) (omega arith)
    ]

words_end : (pages : List Bool) (g : ℕ) → length pages ≡ 1008 → 1008 ≤ g → has_page (words_of pages) g ≡ false
words_end pages g size past =
    elim (cases_lt (g / 64) 16) [
      | inl lt ↦
          let place : 64 * (g / 64) + g % 64 ≡ g = omega arith in
          ap (λ (n : ℕ). bit_at n (g % 64) == 1) (get_or-words_of pages (g / 64) lt)
          ∙ ap (λ (n : ℕ). n == 1) (number-bit 64 (bits_of pages (g / 64)) (g % 64) (omega arith))
          ∙ tested_digit (get_or pages (64 * (g / 64) + g % 64) false)
          ∙ get_or_past pages (64 * (g / 64) + g % 64) false (omega (arith, place))
      | inr none ↦
          ap (λ (n : ℕ). bit_at n (g % 64) == 1)
          (get_or_past (words_of pages) (g / 64) 0 (omega (arith, length-words_of pages)))
          ∙ ap (λ (n : ℕ). n == 1) (bit_at-zero (g % 64))
    ]

are_words : (words : List ℕ) → words_of (pages_of words) ≡ words → AreWords words
are_words words back =
    subst (λ (w : List ℕ). AreWords w) back
    (record {
      size = length-words_of (pages_of words);
      fits = words_fit (pages_of words);
      within = λ g past. words_end (pages_of words) g (length-pages_of words) past;
    })

-- ---- one bit changes

-- the one bit of a word is v now, and the others stay
record IsSetBit (new old at : ℕ) (v : Bool) : Type 0 where
  here : (bit_at new at == 1) ≡ v
  others : (k : ℕ) → k < 64 → k ≢ at → bit_at new k ≡ bit_at old k

set_bit : (old at : ℕ) → at < 64 → IsSetBit (bit_or old (1 * 2 ^ at % 2 ^ 64)) old at true
set_bit old at lt = record {
  here = ap (λ (n : ℕ). n == 1) (bit_at_set_same w64 old at lt);
  others = λ k within apart. bit_at_set_other w64 old at lt k apart;
}

clear_bit : (old at : ℕ) → at < 64 → IsSetBit (bit_and old (bit_not w64 (1 * 2 ^ at % 2 ^ 64))) old at false
clear_bit old at lt = record {
  here = ap (λ (n : ℕ). n == 1) (bit_at_clear_same w64 old at lt);
  others = λ k within apart. bit_at_clear_other w64 old at lt k within apart;
}

-- the bit of one page is v now, and the others stay
record IsChanged (old new : List ℕ) (i : ℕ) (v : Bool) : Type 0 where
  here : has_page new i ≡ v
  others : (g : ℕ) → g ≢ i → has_page new g ≡ has_page old g

page_apart : (words : List ℕ) (i g word : ℕ) (v : Bool) → length words ≡ 16 → i < 1008
    → IsSetBit word (get_or words (i / 64) 0) (i % 64) v → g ≢ i
    → has_page (set words (i / 64) word) g ≡ has_page words g
page_apart words i g word v size lt is apart =
    elim (cases_eq (g / 64) (i / 64)) [
      | inl same ↦
          let place : g % 64 ≢ i % 64 = omega (arith, apart) in
          let bit : bit_at word (g % 64) ≡ bit_at (get_or words (i / 64) 0) (g % 64) =
          is.others (g % 64) (omega arith) place in
          rw same (rw (get_or-set_same words (i / 64) word 0 (omega (arith, size)), bit) refl)
      | inr other ↦
          ap (λ (n : ℕ). bit_at n (g % 64) == 1) (get_or-set_other words (i / 64) (g / 64) word 0 other)
    ]

changed : (words : List ℕ) (i word : ℕ) (v : Bool) → length words ≡ 16 → i < 1008
    → IsSetBit word (get_or words (i / 64) 0) (i % 64) v → IsChanged words (set words (i / 64) word) i v
changed words i word v size lt is = record {
  here = ap (λ (n : ℕ). bit_at n (i % 64) == 1) (get_or-set_same words (i / 64) word 0 (omega (arith, size))) ∙ is.here;
  others = λ g apart. page_apart words i g word v size lt is apart;
}

pages-changed : (old new : List ℕ) (i : ℕ) (v : Bool) → i < 1008 → IsChanged old new i v
    → pages_of new ≡ set (pages_of old) i v
pages-changed old new i v lt is =
    let size = length-pages_of new in
    ext_get_or false (pages_of new) (set (pages_of old) i v)
    (size ∙ sym (length-set (pages_of old) i v ∙ length-pages_of old))
    (λ g within.
    let inside : g < 1008 = omega (arith, size) in
    elim (cases_eq g i) [
      | inl same ↦
          rw same
          (get_or-pages_of new i lt ∙ is.here
          ∙ sym (get_or-set_same (pages_of old) i v false (omega (arith, length-pages_of old))))
      | inr apart ↦
          get_or-pages_of new g inside ∙ is.others g apart
          ∙ sym (get_or-set_other (pages_of old) i g v false apart ∙ get_or-pages_of old g inside)
    ])

words-changed : (words : List ℕ) (i word : ℕ) (v : Bool) → AreWords words → i < 1008 → word < 2 ^ 64
    → IsChanged words (set words (i / 64) word) i v → AreWords (set words (i / 64) word)
words-changed words i word v are lt fits is = record {
  size = length-set words (i / 64) word ∙ are.size;
  fits = λ k. elim (cases_eq k (i / 64)) [
    | inl same ↦ rw (same, get_or-set_same words (i / 64) word 0 (omega (arith, are.size))) fits
    | inr other ↦ rw (get_or-set_other words (i / 64) k word 0 other) (are.fits k)
  ];
  within = λ g past. is.others g (omega arith) ∙ are.within g past;
}

with-changed : (words : List ℕ) (i : ℕ) → AreWords words → i < 1008 → IsChanged words (with_page words i) i true
unfolding with_page
with-changed words i are lt =
    let word = bit_or (get_or words (i / 64) 0) (1 * 2 ^ (i % 64) % 2 ^ 64) in
    changed words i word true are.size lt (set_bit (get_or words (i / 64) 0) (i % 64) (omega arith))

without-changed : (words : List ℕ) (i : ℕ) → AreWords words → i < 1008
    → IsChanged words (without_page words i) i false
unfolding without_page
without-changed words i are lt =
    let word = bit_and (get_or words (i / 64) 0) (bit_not w64 (1 * 2 ^ (i % 64) % 2 ^ 64)) in
    changed words i word false are.size lt (clear_bit (get_or words (i / 64) 0) (i % 64) (omega arith))

with-are : (words : List ℕ) (i : ℕ) → AreWords words → i < 1008 → AreWords (with_page words i)
unfolding with_page
with-are words i are lt =
    let word = bit_or (get_or words (i / 64) 0) (1 * 2 ^ (i % 64) % 2 ^ 64) in
    let fits : word < 2 ^ 64 =
    or_lt 64 (get_or words (i / 64) 0) (1 * 2 ^ (i % 64) % 2 ^ 64) (are.fits (i / 64)) (omega arith) in
    words-changed words i word true are lt fits (with-changed words i are lt)

without-are : (words : List ℕ) (i : ℕ) → AreWords words → i < 1008 → AreWords (without_page words i)
unfolding without_page
without-are words i are lt =
    let word = bit_and (get_or words (i / 64) 0) (bit_not w64 (1 * 2 ^ (i % 64) % 2 ^ 64)) in
    let fits : word < 2 ^ 64 = omega (arith, and_le_l (get_or words (i / 64) 0) (bit_not w64 (1 * 2 ^ (i % 64) % 2 ^ 64)), are.fits (i / 64)) in
    words-changed words i word false are lt fits (without-changed words i are lt)

-- ---- how many pages there are

number_of-set : (pages : List Bool) (i : ℕ) (v : Bool) → i < length pages
    → number_of (set pages i v) + digit (get_or pages i false) ≡ number_of pages + digit v
unfolding number_of
number_of-set pages i v lt = sum_by-set digit pages i v false lt

number_of-most : (pages : List Bool) → number_of pages ≤ length pages
unfolding number_of
number_of-most pages = count_by-le-length (λ is_in. is_in) pages

number_of-none : (n : ℕ) → number_of (replicate n false) ≡ 0
unfolding number_of
number_of-none n = sum_by-replicate digit n false ∙ omega arith

not_zero : (n : ℕ) → 0 < n → (n == 0) ≡ false
not_zero n some = grind (arith, nat_tests)

-- there are none exactly where no page is in the set
none_in : (pages : List Bool) → (number_of pages == 0) ≡ not (list_any (λ is_in. is_in) pages)
unfolding number_of
none_in [] = refl
none_in (true ∷ pages) =
    let some : 0 < number_of (true ∷ pages) = omega (arith, sum_by-cons digit true pages) in
    not_zero (number_of (true ∷ pages)) some
none_in (false ∷ pages) =
    let none : number_of (false ∷ pages) ≡ number_of pages = sum_by-cons digit false pages ∙ omega arith in
    ap (λ (n : ℕ). n == 0) none ∙ none_in pages

-- ---- what the functions show

is_set : (words : List ℕ) (count : ℕ) → AreWords words → number_of (pages_of words) ≡ count → IsPageSet words count
is_set words count are number = record { words_are = words-back words are; count_is = number }

abbrev zeros : List ℕ
zeros = replicate 16 0

size_zeros : length zeros ≡ 16
size_zeros = refl

no_words : (k : ℕ) → get_or zeros k 0 ≡ 0
no_words k =
    elim (cases_lt k 16) [
      | inl lt ↦ get_or-replicate 16 k 0 0 lt
      | inr past ↦ get_or_past zeros k 0 (omega (arith, size_zeros))
    ]

no_page : (g : ℕ) → has_page zeros g ≡ false
no_page g = ap (λ (n : ℕ). bit_at n (g % 64) == 1) (no_words (g / 64)) ∙ ap (λ (n : ℕ). n == 1) (bit_at-zero (g % 64))

pub new-pages : pages_of zeros ≡ replicate 1008 false
new-pages =
    let size = length-pages_of zeros in
    ext_get_or false (pages_of zeros) (replicate 1008 false) (size ∙ sym (length-replicate 1008 false))
    (λ g within.
    let lt : g < 1008 = omega (arith, size) in
    get_or-pages_of zeros g lt ∙ no_page g ∙ sym (get_or-replicate 1008 g false false lt))

pub new-is_set : IsPageSet zeros 0
new-is_set =
    is_set zeros 0
    (record {
      size = size_zeros;
      fits = λ k. rw (no_words k) (omega arith);
      within = λ g past. no_page g;
    })
    (ap number_of new-pages ∙ number_of-none 1008)

pub is_empty : (words : List ℕ) (count : ℕ) → IsPageSet words count
    → (count == 0) ≡ not (list_any (λ is_in. is_in) (pages_of words))
is_empty words count is = ap (λ (n : ℕ). n == 0) (sym is.count_is) ∙ none_in (pages_of words)

pub count-most : (words : List ℕ) (count : ℕ) → IsPageSet words count → count ≤ 1008
count-most words count is = omega (arith, is.count_is, number_of-most (pages_of words), length-pages_of words)

pub read-page : (words : List ℕ) (i : ℕ) → i < 1008 → slice_get (pages_of words) i ≡ Some (has_page words i)
read-page words i lt =
    slice_get-get_or (pages_of words) i false (omega (arith, length-pages_of words))
    ∙ ap (λ b. Some b) (get_or-pages_of words i lt)

pub pages-kept : (words : List ℕ) (i : ℕ) (v : Bool) → i < 1008 → has_page words i ≡ v
    → set (pages_of words) i v ≡ pages_of words
pages-kept words i v lt is =
    ap (set (pages_of words) i) (sym (get_or-pages_of words i lt ∙ is)) ∙ set-get_or (pages_of words) i false

pub with-pages : (words : List ℕ) (count i : ℕ) → IsPageSet words count → i < 1008
    → pages_of (with_page words i) ≡ set (pages_of words) i true
with-pages words count i is lt =
    pages-changed words (with_page words i) i true lt (with-changed words i (are_words words is.words_are) lt)

pub without-pages : (words : List ℕ) (count i : ℕ) → IsPageSet words count → i < 1008
    → pages_of (without_page words i) ≡ set (pages_of words) i false
without-pages words count i is lt =
    pages-changed words (without_page words i) i false lt (without-changed words i (are_words words is.words_are) lt)

-- what a change of one page does to their number
number-moved : (words : List ℕ) (i : ℕ) (v was : Bool) → i < 1008 → has_page words i ≡ was
    → number_of (set (pages_of words) i v) + digit was ≡ number_of (pages_of words) + digit v
number-moved words i v was lt here =
    ap (λ b. number_of (set (pages_of words) i v) + digit b) (sym (get_or-pages_of words i lt ∙ here))
    ∙ number_of-set (pages_of words) i v (omega (arith, length-pages_of words))

-- a page whose bit is set is one of them
pub count-some : (words : List ℕ) (count i : ℕ) → IsPageSet words count → i < 1008 → has_page words i ≡ true → 1 ≤ count
count-some words count i is lt here =
    omega (arith, is.count_is, number-moved words i false true lt here)

pub with-is_set : (words : List ℕ) (count i : ℕ) → IsPageSet words count → i < 1008 → has_page words i ≡ false
    → IsPageSet (with_page words i) (count + 1)
with-is_set words count i is lt here =
    is_set (with_page words i) (count + 1) (with-are words i (are_words words is.words_are) lt)
    (ap number_of (with-pages words count i is lt) ∙ omega (arith, is.count_is, number-moved words i true false lt here))

pub without-is_set : (words : List ℕ) (count i : ℕ) → IsPageSet words count → i < 1008 → has_page words i ≡ true
    → IsPageSet (without_page words i) (count - 1)
without-is_set words count i is lt here =
    is_set (without_page words i) (count - 1) (without-are words i (are_words words is.words_are) lt)
    (ap number_of (without-pages words count i is lt) ∙ omega (arith, is.count_is, number-moved words i false true lt here))
