-- The words of numbers.
use Rattle.std.proofs.Common.{◌≡◌, ℕ, zero, suc, ◌+◌, ◌-◌, ◌*◌, ◌/◌, ◌%◌, ◌^◌, ◌<◌, ◌∙◌, true, List, [], ◌∷◌, ◌++◌, get_or, map, ap, refl, sym, arith, add-one, ℤ, pos, negsuc, neg_ℤ, ◌≤ℤ◌, ◌<ℤ◌}
use Rattle.std.proofs.lemmas.Bool.Decides.{nat_tests}
use Rattle.std.proofs.lemmas.List.{map-append}
use Rattle.std.proofs.lemmas.Int.{ints}
use Rattle.std.proofs.lemmas.Int.Digits.{digits_of_step, number_digits_of, all_below_base_digits_of, first_digits_of}
use Rattle.std.specs.List.{list_all, AllByRecursion}
use Rattle.std.specs.Char.{is_ascii_digit}
use Rattle.std.proofs.lemmas.Fmt.{decimal-digits_of, decimal_digit}
use Rattle.std.specs.Fmt.{decimal, signed_decimal}
use Rattle.std.specs.Int.Digits.{digits_of, number_from_digits}
use Rattle.split_types.specs.Lines.{numeral, signed_numeral}

digit : ℕ → ℕ
digit d = 48 + d

numeral_none : numeral 0 ≡ 48 ∷ []
unfolding numeral
numeral_none = refl

numeral_some : (n : ℕ) → 0 < n → numeral n ≡ map (λ d. 48 + d) (digits_of 10 n)
unfolding numeral
numeral_some n above = grind (arith, nat_tests)

-- as std prints a number
pub numeral_is_decimal : (n : ℕ) → n < 2 ^ 64 → numeral n ≡ decimal n
numeral_is_decimal zero small = numeral_none ∙ sym (decimal_digit 0 (omega arith))
numeral_is_decimal (suc n) small = numeral_some (suc n) (omega arith)
    ∙ sym (decimal-digits_of (suc n) (omega arith) small)

-- a number below ten
pub numeral_digit : (d : ℕ) → d < 10 → numeral d ≡ (48 + d) ∷ []
numeral_digit d small = numeral_is_decimal d (omega arith) ∙ decimal_digit d small

-- one digit more
pub numeral_more : (n d : ℕ) → 0 < n → d < 10 → numeral (n * 10 + d) ≡ numeral n ++ (48 + d) ∷ []
numeral_more n d above small =
    let m = n * 10 + d in
    let front : m / 10 ≡ n = omega arith in
    let last : m % 10 ≡ d = omega arith in
    numeral_some m (omega arith)
    ∙ ap (map (λ x. 48 + x)) (digits_of_step 10 m (omega arith) (omega arith))
    ∙ map-append (λ x. 48 + x) (digits_of 10 (m / 10)) (m % 10 ∷ [])
    ∙ ap (λ k. map (λ x. 48 + x) (digits_of 10 k) ++ (48 + m % 10) ∷ []) front
    ∙ ap (λ k. map (λ x. 48 + x) (digits_of 10 n) ++ (48 + k) ∷ []) last
    ∙ ap (λ l. l ++ (48 + d) ∷ []) (sym (numeral_some n above))

-- an amount as std prints it
pub signed_is_decimal : (z : ℤ) → neg_ℤ (pos (2 ^ 63)) ≤ℤ z → z <ℤ pos (2 ^ 63) → signed_numeral z ≡ signed_decimal z
signed_is_decimal (pos n) low high = numeral_is_decimal n (omega (arith, ints))
signed_is_decimal (negsuc n) low high = ap (λ m. 45 ∷ numeral m) (add-one n)
    ∙ ap (λ l. 45 ∷ l) (numeral_is_decimal (suc n) (omega (arith, ints)))

-- the number that such a word stands for
number_back : List ℕ → ℕ
number_back word = number_from_digits 10 (map (λ b. b - 48) word)

digits_back : (ds : List ℕ) → map (λ b. b - 48) (map (λ d. 48 + d) ds) ≡ ds
digits_back [] = refl
digits_back (d ∷ ds) = let first : (48 + d) - 48 ≡ d = omega arith in
    ap (λ x. x ∷ map (λ b. b - 48) (map (λ e. 48 + e) ds)) first ∙ ap (λ l. d ∷ l) (digits_back ds)

number_of_numeral : (n : ℕ) → number_back (numeral n) ≡ n
unfolding number_back
number_of_numeral zero = ap (λ word. number_from_digits 10 (map (λ b. b - 48) word)) numeral_none
number_of_numeral (suc n) =
    ap (λ word. number_from_digits 10 (map (λ b. b - 48) word)) (numeral_some (suc n) (omega arith))
    ∙ ap (number_from_digits 10) (digits_back (digits_of 10 (suc n)))
    ∙ number_digits_of 10 (suc n) (omega arith)

-- two numbers with one word are one
pub numeral_injective : (m n : ℕ) → numeral m ≡ numeral n → m ≡ n
numeral_injective m n same = sym (number_of_numeral m) ∙ ap number_back same ∙ number_of_numeral n

all_digits : (ds : List ℕ) → AllByRecursion (λ d. d < 10) ds → list_all is_ascii_digit (map (λ d. 48 + d) ds) ≡ true
all_digits [] below = refl
all_digits (d ∷ ds) below = let first = below.0 in let rest = all_digits ds below.1 in grind (arith, nat_tests)

-- each byte of the word is a digit
pub numeral_digits : (n : ℕ) → list_all is_ascii_digit (numeral n) ≡ true
numeral_digits zero = ap (list_all is_ascii_digit) numeral_none
numeral_digits (suc n) = ap (list_all is_ascii_digit) (numeral_some (suc n) (omega arith))
    ∙ all_digits (digits_of 10 (suc n)) (all_below_base_digits_of 10 (suc n) (omega arith))

-- the first digit of a number's word: a zero only of 0 itself
pub record Front (n : ℕ) : Type 0 where
  pub first : ℕ
  pub others : List ℕ
  pub word_is : numeral n ≡ first ∷ others
  pub digit : is_ascii_digit first ≡ true
  pub lone : first ≡ 48 → n ≡ 0

front_of : (n : ℕ) (ds : List ℕ) → digits_of 10 n ≡ ds → 0 < n → Front n
front_of n [] is some = let none : 0 ≡ n = sym (ap (number_from_digits 10) is) ∙ number_digits_of 10 n (omega arith) in
    absurd (omega arith)
front_of n (d ∷ ds) is some =
    let high : 0 < d = rw (ap (λ l. get_or l 0 0) is) at (first_digits_of 10 n (omega arith) some) in
    let below : AllByRecursion (λ x. x < 10) (d ∷ ds) = rw is at (all_below_base_digits_of 10 n (omega arith)) in
    record {
      first = 48 + d;
      others = map (λ x. 48 + x) ds;
      word_is = numeral_some n some ∙ ap (map (λ x. 48 + x)) is;
      digit = let small = below.0 in grind (arith, nat_tests);
      lone = λ e. absurd (omega arith);
    }

pub front : (n : ℕ) → Front n
front zero = record { first = 48; others = []; word_is = numeral_none; digit = refl; lone = λ e. refl }
front (suc n) = front_of (suc n) (digits_of 10 (suc n)) refl (omega arith)
