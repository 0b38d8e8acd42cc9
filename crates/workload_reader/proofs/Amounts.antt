-- Amounts at the front of a text.
use Rattle.std.proofs.Common.{◌≡◌, ◌≢◌, ℕ, ◌==◌, ◌+◌, ◌<◌, ◌∙◌, true, false, List, ◌∷◌, ◌++◌, Option, Some, None}
use Rattle.std.proofs.Common.{MatchOption, ap, refl, sym, arith, ℤ, pos, negsuc, neg_ℤ, Bor}
use Rattle.std.proofs.lemmas.Bool.Decides.{nat_tests}
use Rattle.std.specs.Char.{is_ascii_digit}
use Rattle.split_types.specs.Lines.{numeral, signed_numeral}
use Rattle.split_types.proofs.Shared.{front}
use Rattle.workload_reader.specs.Fields.{ends_number, NumberAt, FieldAt, AmountAt, IsAmountWithin, Keeps}
use Rattle.workload_reader.proofs.Alike.{number_alike, after_field}

-- a number that is zero is no number with one more
pub zero_is_none : {text x y : List ℕ} {m k : ℕ} (n : ℕ) → NumberAt text m x → k ≡ n + 1 → m ≡ 0 → NumberAt text k y → ⊥
zero_is_none {text} {x} {y} {m} {k} n a is none b = let same = (number_alike a b).0 in absurd (omega arith)

pub not_zero : (n : ℕ) → (n == 0) ≡ false → 0 < n
not_zero n e = grind (arith, nat_tests)

pub minus_is_no_digit : (n : ℕ) (bs rest : List ℕ) → numeral n ++ rest ≡ 45 ∷ bs → ⊥
minus_is_no_digit n bs rest e =
    let f = front n in
    let first : f.first ≡ 45 = let g = sym (ap (λ l. l ++ rest) f.word_is) ∙ e in cc in
    absurd (cc (sym (ap is_ascii_digit first) ∙ f.digit))

pub negative_amount : (text digits : List ℕ) (most : ℕ) (r : Option (Option ℤ × Bor (List ℕ))) → text ≡ 32 ∷ 45 ∷ digits
    → MatchOption r ((n : ℕ) (rest : List ℕ) → NumberAt digits (n + 1) rest → ⊥)
    (λ r. (n : ℕ) × NumberAt digits (n + 1) r.1.now
    × Keeps (IsAmountWithin (neg_ℤ (pos most)) (pos most)) (negsuc n) r.0)
    → MatchOption r ((z : ℤ) (rest : List ℕ) → AmountAt text z rest → ⊥)
    (λ r. (z : ℤ) × AmountAt text z r.1.now × Keeps (IsAmountWithin (neg_ℤ (pos most)) (pos most)) z r.0)
negative_amount text digits most (Some r) is p =
    (negsuc p.0, record { text_is = is ∙ ap (λ l. 32 ∷ 45 ∷ l) p.1.text_is; ends = p.1.ends }, p.2)
negative_amount text digits most None is p = λ z rest at. none z rest at where
  none : (z : ℤ) (rest : List ℕ) → AmountAt text z rest → ⊥
  none (pos n) rest at = minus_is_no_digit n digits rest (let e = sym at.text_is ∙ is in cc)
  none (negsuc n) rest at = p n rest (record { text_is = let e = sym is ∙ at.text_is in cc; ends = at.ends })

pub positive_amount : (text : List ℕ) (most : ℕ) (r : Option (Option ℤ × Bor (List ℕ)))
    → ((rest : List ℕ) → text ≢ 32 ∷ 45 ∷ rest)
    → MatchOption r ((n : ℕ) (rest : List ℕ) → FieldAt text n rest → ⊥)
    (λ r. (n : ℕ) × FieldAt text n r.1.now × Keeps (IsAmountWithin (neg_ℤ (pos most)) (pos most)) (pos n) r.0)
    → MatchOption r ((z : ℤ) (rest : List ℕ) → AmountAt text z rest → ⊥)
    (λ r. (z : ℤ) × AmountAt text z r.1.now × Keeps (IsAmountWithin (neg_ℤ (pos most)) (pos most)) z r.0)
positive_amount text most (Some r) other p = (pos p.0, record { text_is = p.1.text_is; ends = p.1.ends }, p.2)
positive_amount text most None other p = λ z rest at. none z rest at where
  none : (z : ℤ) (rest : List ℕ) → AmountAt text z rest → ⊥
  none (pos n) rest at = p n rest (record { text_is = at.text_is; ends = at.ends })
  none (negsuc n) rest at = other (numeral (n + 1) ++ rest) at.text_is

amounts : (y z : ℤ) (text x rest : List ℕ) → AmountAt text y x → AmountAt text z rest → x ≡ rest
amounts (pos m) (pos n) text x rest a b =
    after_field n rest (record { text_is = a.text_is; ends = a.ends }) b.text_is b.ends
amounts (pos m) (negsuc n) text x rest a b =
    absurd (minus_is_no_digit m (numeral (n + 1) ++ rest) x (let e = sym a.text_is ∙ b.text_is in cc))
amounts (negsuc m) (pos n) text x rest a b =
    absurd (minus_is_no_digit n (numeral (m + 1) ++ x) rest (let e = sym b.text_is ∙ a.text_is in cc))
amounts (negsuc m) (negsuc n) text x rest a b =
    let one : NumberAt (numeral (m + 1) ++ x) (m + 1) x = record { text_is = refl; ends = a.ends } in
    let other : NumberAt (numeral (m + 1) ++ x) (n + 1) rest = record {
      text_is = let e = sym a.text_is ∙ b.text_is in cc;
      ends = b.ends;
    } in
    (number_alike one other).1

pub after_amount : {text x : List ℕ} {z : ℤ} (y : ℤ) (rest : List ℕ) → AmountAt text z x
    → text ≡ 32 ∷ signed_numeral y ++ rest → ends_number rest ≡ true → x ≡ rest
after_amount {text} {x} {z} y rest a e ends = amounts z y text x rest a (record { text_is = e; ends = ends })
