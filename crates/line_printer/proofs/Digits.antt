-- The words of numbers of few digits.
use Rattle.std.proofs.Common.{◌≡◌, ℕ, ◌+◌, ◌*◌, ◌/◌, ◌%◌, ◌<◌, ◌≤◌, ◌∙◌, [], ◌∷◌, ◌++◌, ap, arith}
use Rattle.split_types.specs.Lines.{numeral}
use Rattle.split_types.proofs.Shared.{numeral_digit, numeral_more}

-- all digits but the last, and the last
last_digit : (n : ℕ) → 10 ≤ n → numeral n ≡ numeral (n / 10) ++ (48 + n % 10) ∷ []
last_digit n many =
    let parts : n ≡ n / 10 * 10 + n % 10 = omega arith in
    ap numeral parts ∙ numeral_more (n / 10) (n % 10) (omega arith) (omega arith)

pub two_digits : (n : ℕ) → 10 ≤ n → n < 100 → numeral n ≡ (48 + n / 10) ∷ (48 + n % 10) ∷ []
two_digits n many few = last_digit n many
    ∙ ap (λ l. l ++ (48 + n % 10) ∷ []) (numeral_digit (n / 10) (omega arith))

pub three_digits : (n : ℕ) → 100 ≤ n → n < 1000
    → numeral n ≡ (48 + n / 100) ∷ (48 + n / 10 % 10) ∷ (48 + n % 10) ∷ []
three_digits n many few =
    let first : n / 10 / 10 ≡ n / 100 = omega arith in
    last_digit n (omega arith) ∙ ap (λ l. l ++ (48 + n % 10) ∷ []) (two_digits (n / 10) (omega arith) (omega arith))
    ∙ ap (λ d. (48 + d) ∷ (48 + n / 10 % 10) ∷ (48 + n % 10) ∷ []) first

pub four_digits : (n : ℕ) → 1000 ≤ n → n < 10000
    → numeral n ≡ (48 + n / 1000) ∷ (48 + n / 100 % 10) ∷ (48 + n / 10 % 10) ∷ (48 + n % 10) ∷ []
four_digits n many few =
    let first : n / 10 / 100 ≡ n / 1000 = omega arith in
    let second : n / 10 / 10 ≡ n / 100 = omega arith in
    last_digit n (omega arith) ∙ ap (λ l. l ++ (48 + n % 10) ∷ []) (three_digits (n / 10) (omega arith) (omega arith))
    ∙ ap (λ d. (48 + d) ∷ (48 + n / 10 / 10 % 10) ∷ (48 + n / 10 % 10) ∷ (48 + n % 10) ∷ []) first
    ∙ ap (λ d. (48 + n / 1000) ∷ (48 + d % 10) ∷ (48 + n / 10 % 10) ∷ (48 + n % 10) ∷ []) second

pub five_digits : (n : ℕ) → 10000 ≤ n → n < 100000 → numeral n
    ≡ (48 + n / 10000) ∷ (48 + n / 1000 % 10) ∷ (48 + n / 100 % 10) ∷ (48 + n / 10 % 10) ∷ (48 + n % 10) ∷ []
five_digits n many few =
    let first : n / 10 / 1000 ≡ n / 10000 = omega arith in
    let second : n / 10 / 100 ≡ n / 1000 = omega arith in
    let third : n / 10 / 10 ≡ n / 100 = omega arith in
    last_digit n (omega arith) ∙ ap (λ l. l ++ (48 + n % 10) ∷ []) (four_digits (n / 10) (omega arith) (omega arith))
    ∙ ap (λ d. (48 + d) ∷ (48 + n / 10 / 100 % 10) ∷ (48 + n / 10 / 10 % 10) ∷ (48 + n / 10 % 10) ∷ (48 + n % 10) ∷ [])
    first
    ∙ ap (λ d. (48 + n / 10000) ∷ (48 + d % 10) ∷ (48 + n / 10 / 10 % 10) ∷ (48 + n / 10 % 10) ∷ (48 + n % 10) ∷ [])
    second
    ∙ ap (λ d. (48 + n / 10000) ∷ (48 + n / 1000 % 10) ∷ (48 + d % 10) ∷ (48 + n / 10 % 10) ∷ (48 + n % 10) ∷ []) third
