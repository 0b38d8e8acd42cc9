-- The processes of a set one by one: those from a number on, where a word has no mark from there on, and where it has.
use Rattle.std.proofs.Common.{◌≡◌, ℕ, zero, suc, ◌+◌, ◌-◌, ◌*◌, ◌/◌, ◌%◌, ◌^◌, ◌<◌, ◌≤◌, Bool, true, false, List, [], ◌∷◌, ◌++◌, refl, ap, sym, ◌∙◌, arith, get_or, inl, inr}
use Rattle.std.specs.Prelude.{◌==◌, filter}
use Rattle.std.specs.Int.{bit_at, trailing_zeros, w64}
use Rattle.std.specs.List.{range_with_len}
use Rattle.std.proofs.lemmas.Bool.{cases_lt}
use Rattle.std.proofs.lemmas.List.Elements.{filter-append}
use Rattle.std.proofs.lemmas.Nat.{pow-add}
use Rattle.std.proofs.lemmas.Nat.Bits.{bit_at-trailing_zeros, bit_at_above, bit_at-zero}
use Rattle.std.proofs.Math.Nat.{div-div-eq-div-mul, div-le_self, div-eq_of_lt}
use Rattle.std.proofs.Math.Pow.{pow_mono}
use Rattle.cause_set.specs.Marks.{is_marked, marked_from, shifted_word, IsRest}
use Rattle.cause_set.proofs.Counts.{range-split}

-- a range where nothing passes
nothing : (f : ℕ → Bool) (a n : ℕ) → ((q : ℕ) → a ≤ q → q < a + n → f q ≡ false) → filter f (range_with_len a n) ≡ []
nothing f a zero none = refl
nothing f a (suc n) none =
    let rest : filter f (range_with_len (a + 1) n) ≡ [] =
    nothing f (a + 1) n (λ q low high. none q (omega arith) (omega arith)) in
    rw (none a (omega arith) (omega arith), rest) refl

-- numbers without marks are passed over
pub marked_from-skip : (words : List ℕ) (a b : ℕ) → a ≤ b → b ≤ 257
    → ((q : ℕ) → a ≤ q → q < b → is_marked words q ≡ false) → marked_from words a ≡ marked_from words b
marked_from-skip words a b up within none =
    let sum : 257 - a ≡ (b - a) + (257 - b) = omega arith in
    let end : a + (b - a) ≡ b = omega arith in
    ap (λ n. filter (is_marked words) (range_with_len a n)) sum
    ∙ ap (filter (is_marked words)) (range-split a (b - a) (257 - b))
    ∙ filter-append (is_marked words) (range_with_len a (b - a)) (range_with_len (a + (b - a)) (257 - b))
    ∙ ap (λ l. l ++ filter (is_marked words) (range_with_len (a + (b - a)) (257 - b)))
    (nothing (is_marked words) a (b - a) (λ q low high. none q low (omega arith)))
    ∙ ap (λ i. filter (is_marked words) (range_with_len i (257 - b))) end

-- a bit of a shifted word
shifted : (w k i : ℕ) → bit_at (w / 2 ^ k) i ≡ bit_at w (k + i)
shifted w k i = ap (λ n. n % 2) (div-div-eq-div-mul w (2 ^ k) (2 ^ i) ∙ ap (λ d. w / d) (sym (pow-add 2 k i)))

-- the mark of a number, in the word shifted to an earlier one of the same word
mark_shifted : (words : List ℕ) (a q i : ℕ) → 1 ≤ a → q ≡ a + i → (a - 1) % 64 + i < 64
    → is_marked words q ≡ (bit_at (get_or words ((a - 1) / 64) 0 / 2 ^ ((a - 1) % 64)) i == 1)
mark_shifted words a q i some e within =
    let word : (q - 1) / 64 ≡ (a - 1) / 64 = omega arith in
    let place : (q - 1) % 64 ≡ (a - 1) % 64 + i = omega arith in
    rw (word, place, shifted (get_or words ((a - 1) / 64) 0) ((a - 1) % 64) i) refl

-- nothing is marked from a number to the end of its word, where the shifted word is 0
pub marked_from-word : (words : List ℕ) (a : ℕ) → 1 ≤ a → a ≤ 256
    → get_or words ((a - 1) / 64) 0 / 2 ^ ((a - 1) % 64) ≡ 0
    → marked_from words a ≡ marked_from words (((a - 1) / 64 + 1) * 64 + 1)
marked_from-word words a some within none =
    marked_from-skip words a (((a - 1) / 64 + 1) * 64 + 1) (omega arith) (omega arith)
    (λ q low high. mark_shifted words a q (q - a) some (omega arith) (omega arith)
    ∙ ap (λ w. bit_at w (q - a) == 1) none ∙ ap (λ d. d == 1) (bit_at-zero (q - a)))

-- the next number with a mark is where the shifted word has its lowest bit
abbrev pub next_mark : List ℕ → ℕ → ℕ
next_mark words a = a + trailing_zeros w64 (shifted_word words a)

pub record Next (words : List ℕ) (a : ℕ) : Type 0 where
  pub within : next_mark words a ≤ 256
  pub found : marked_from words a ≡ next_mark words a ∷ marked_from words (next_mark words a + 1)

pub marked_from-next : (words : List ℕ) (a : ℕ) → 1 ≤ a → a ≤ 256 → get_or words ((a - 1) / 64) 0 < 2 ^ 64
    → 0 < shifted_word words a → Next words a
marked_from-next words a some last fits any =
    let z = trailing_zeros w64 (shifted_word words a) in
    let lowest =
    bit_at-trailing_zeros w64 (shifted_word words a) any
    (omega (arith, div-le_self (get_or words ((a - 1) / 64) 0) (2 ^ ((a - 1) % 64))))
    in
    elim (cases_lt ((a - 1) % 64 + z) 64) [
      | inl within ↦
          let more : 257 - (a + z) ≡ suc (257 - (a + z + 1)) = omega arith in
          let here : is_marked words (a + z) ≡ true =
          mark_shifted words a (a + z) z some refl within ∙ ap (λ d. d == 1) lowest.1 in
          record {
            within = omega arith;
            found =
                marked_from-skip words a (a + z) (omega arith) (omega arith)
                (λ q low high. mark_shifted words a q (q - a) some (omega arith) (omega arith)
                ∙ ap (λ d. d == 1) (lowest.2 (q - a) (omega arith)))
                ∙ ap (λ n. filter (is_marked words) (range_with_len (a + z) n)) more ∙ rw here refl;
          }
      | inr above ↦
          absurd
          (omega (
            arith,
            lowest.1,
            shifted (get_or words ((a - 1) / 64) 0) ((a - 1) % 64) z,
            bit_at_above (get_or words ((a - 1) / 64) 0) 64 ((a - 1) % 64 + z) fits above,
          ))
    ]

-- what is shifted out whole leaves 0
short : (w k : ℕ) → w < 2 ^ 64 → 0 < w / 2 ^ k → k < 64
short w k fits any =
    elim (cases_lt k 64) [
      | inl l ↦ l
      | inr above ↦
          let less : w < 2 ^ k = omega (arith, fits, pow_mono above) in
          let none : w / 2 ^ k ≡ 0 = div-eq_of_lt less in
          absurd (omega (arith, any, none))
    ]

-- a shifted word, shifted past some bits and one more
past : (w p z : ℕ) → w / 2 ^ p / 2 / 2 ^ z ≡ w / 2 ^ (p + z + 1)
past w p z =
    let sum : p + 1 + z ≡ p + z + 1 = omega arith in
    ap (λ n. n / 2 ^ z) (div-div-eq-div-mul w (2 ^ p) 2 ∙ ap (λ d. w / d) (sym (pow-add 2 p 1)))
    ∙ div-div-eq-div-mul w (2 ^ (p + 1)) (2 ^ z) ∙ ap (λ d. w / d) (sym (pow-add 2 (p + 1) z))
    ∙ ap (λ n. w / 2 ^ n) sum

-- what is left of the word after its next mark
pub rest-next : (words : List ℕ) (a z : ℕ) → 1 ≤ a → a ≤ 256 → get_or words ((a - 1) / 64) 0 < 2 ^ 64
    → IsRest words (a + z + 1) (shifted_word words a / 2 / 2 ^ z)
rest-next words a z some last fits any =
    let w = get_or words ((a - 1) / 64) 0 in
    let moved : shifted_word words a / 2 / 2 ^ z ≡ w / 2 ^ ((a - 1) % 64 + z + 1) = past w ((a - 1) % 64) z in
    let low : (a - 1) % 64 + z + 1 < 64 = short w ((a - 1) % 64 + z + 1) fits (omega (arith, moved, any)) in
    let word : (a + z + 1 - 1) / 64 ≡ (a - 1) / 64 = omega arith in
    let place : (a + z + 1 - 1) % 64 ≡ (a - 1) % 64 + z + 1 = omega arith in
    (omega arith, moved ∙ rw (word, place) refl)
