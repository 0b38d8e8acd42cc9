-- A text is parted in one way.
use Rattle.std.proofs.Common.{◌≡◌, ℕ, ◌+◌, ◌-◌, ◌<◌, ◌∙◌, Bool, true, false, not, List, [], ◌∷◌, ◌++◌, ap, refl, sym}
use Rattle.std.proofs.Common.{arith, ◌&&◌, ◌==◌, eq-eqb, drop, get_or, length, nat_lt, nat_le, IsTrue}
use Rattle.std.proofs.Math.Seq.{drop-append_seam}
use Rattle.std.proofs.lemmas.Bool.{false≢true}
use Rattle.std.proofs.lemmas.Bool.Decides.{nat_tests}
use Rattle.std.specs.List.{list_all}
use Rattle.std.specs.Char.{is_ascii_digit}
use Rattle.split_types.specs.Lines.{numeral}
use Rattle.split_types.proofs.Shared.{numeral_digits, numeral_injective, numeral_digit, front}
use Rattle.workload_reader.specs.Fields.{ends_number, DigitsAt, NumberAt, FieldAt, is_end, ends_word, SpacedAt}
use Rattle.workload_reader.specs.Fields.{ExtentAt}
use Rattle.split_types.specs.Names.{is_name, is_name_byte}

-- two texts that differ in the byte at k are not one
pub differ : {x y : List ℕ} (k : ℕ) → x ≡ y → (get_or x k 0 == get_or y k 0) ≡ false → ⊥
differ {x} {y} k e other = false≢true (sym other ∙ eq-eqb (get_or x k 0) (get_or y k 0) (ap (λ l. get_or l k 0) e))

-- what follows one front in one text is one
pub cancel : (front : List ℕ) {x y : List ℕ} → front ++ x ≡ front ++ y → x ≡ y
cancel front {x} {y} e = sym (drop-append_seam front x) ∙ ap (drop (length front)) e ∙ drop-append_seam front y

-- no byte of the kind follows
abbrev pub stops : (ℕ → Bool) → List ℕ → Bool
stops p [] = true
stops p (b ∷ bs) = not (p b)

pub both : (p q : Bool) → (p && q) ≡ true → (p ≡ true) × (q ≡ true)
both true true e = (refl, refl)
both true false e = absurd (cc)
both false q e = absurd (cc)

-- a byte is of the kind or not
clash : (p : ℕ → Bool) (b : ℕ) (bs : List ℕ) (x : List ℕ) → p b ≡ true → stops p x ≡ true → x ≡ b ∷ bs → ⊥
clash p b bs x is stop e = false≢true (sym (ap not is) ∙ sym (ap (stops p) e) ∙ stop)

-- two runs of bytes of one kind, behind which none of that kind stands, are one where the text is one
pub run_alike : (p : ℕ → Bool) (ds es x y : List ℕ) → list_all p ds ≡ true → list_all p es ≡ true → stops p x ≡ true
    → stops p y ≡ true → ds ++ x ≡ es ++ y → (ds ≡ es) × (x ≡ y)
run_alike p [] [] x y all_ds all_es stop_x stop_y e = (refl, e)
run_alike p [] (b ∷ bs) x y all_ds all_es stop_x stop_y e =
    absurd (clash p b (bs ++ y) x (both (p b) (list_all p bs) all_es).0 stop_x e)
run_alike p (a ∷ more) [] x y all_ds all_es stop_x stop_y e =
    absurd (clash p a (more ++ x) y (both (p a) (list_all p more) all_ds).0 stop_y (sym e))
run_alike p (a ∷ more) (b ∷ bs) x y all_ds all_es stop_x stop_y e =
    let first : a ≡ b = cc in
    let rest : more ++ x ≡ bs ++ y = cc in
    let others = run_alike p more bs x y (both (p a) (list_all p more) all_ds).1
    (both (p b) (list_all p bs) all_es).1 stop_x stop_y rest in
    (ap (λ c. c ∷ more) first ∙ ap (λ l. b ∷ l) others.0, others.1)

stops_digits : (x : List ℕ) → ends_number x ≡ true → stops is_ascii_digit x ≡ true
stops_digits [] e = refl
stops_digits (b ∷ bs) e = e

-- one number stands at the front
pub number_alike : {text x y : List ℕ} {m n : ℕ} → NumberAt text m x → NumberAt text n y → (m ≡ n) × (x ≡ y)
number_alike {text} {x} {y} {m} {n} a b =
    let p = run_alike is_ascii_digit (numeral m) (numeral n) x y (numeral_digits m) (numeral_digits n)
    (stops_digits x a.ends) (stops_digits y b.ends) (sym a.text_is ∙ b.text_is) in
    (numeral_injective m n p.0, p.1)

-- no number stands at the front of nothing
pub no_number_at_end : {n : ℕ} {rest : List ℕ} → NumberAt [] n rest → ⊥
no_number_at_end {n} {rest} a = let f = front n in let e = a.text_is ∙ ap (λ l. l ++ rest) f.word_is in cc

-- nor where the first byte is no digit
pub no_number_at : {b : ℕ} {bs : List ℕ} {n : ℕ} {rest : List ℕ} → is_ascii_digit b ≡ false → NumberAt (b ∷ bs) n rest
    → ⊥
no_number_at {b} {bs} {n} {rest} no_digit a =
    let f = front n in
    let e = a.text_is ∙ ap (λ l. l ++ rest) f.word_is in
    let first : b ≡ f.first = cc in
    false≢true (sym no_digit ∙ ap is_ascii_digit first ∙ f.digit)

-- nor where more digits follow a zero
pub no_number_at_zero : {bs : List ℕ} {n : ℕ} {rest : List ℕ} → ends_number bs ≡ false → NumberAt (48 ∷ bs) n rest → ⊥
no_number_at_zero {bs} {n} {rest} more a =
    let f = front n in
    let e = a.text_is ∙ ap (λ l. l ++ rest) f.word_is in
    let first : f.first ≡ 48 = cc in
    let zero = f.lone first in
    let b : NumberAt (48 ∷ bs) 0 rest = rw zero at a in
    let f = b.text_is ∙ ap (λ l. l ++ rest) (numeral_digit 0 (omega arith)) in
    let one : bs ≡ rest = cc in
    false≢true (sym more ∙ ap ends_number one ∙ a.ends)

-- a number stands at the front
pub zero_at : (rest : List ℕ) → ends_number rest ≡ true → NumberAt (48 ∷ rest) 0 rest
zero_at rest ends = record { text_is = ap (λ l. l ++ rest) (sym (numeral_digit 0 (omega arith))); ends = ends }

pub digits_at : {d : ℕ} {first n : ℕ} {text rest : List ℕ} → is_ascii_digit d ≡ true → first ≡ d - 48
    → DigitsAt first text n rest → NumberAt (d ∷ text) n rest
digits_at {d} {first} {n} {text} {rest} digit is a =
    let small : d - 48 < 10 = grind (arith, nat_tests) in
    let whole : 48 + (d - 48) ≡ d = grind (arith, nat_tests) in
    let word : numeral n ≡ d ∷ a.digits = a.word_is ∙ ap (λ m. numeral m ++ a.digits) is
    ∙ ap (λ l. l ++ a.digits) (numeral_digit (d - 48) small) ∙ ap (λ b. b ∷ a.digits) whole in
    record { text_is = ap (λ l. d ∷ l) a.text_is ∙ ap (λ l. l ++ rest) (sym word); ends = a.ends }

stops_words : (x : List ℕ) → ends_word x ≡ true → stops (λ b. not (is_end b)) x ≡ true
stops_words [] e = refl
stops_words (b ∷ bs) e = ap (λ c. not (not c)) e

inside_byte : (b : ℕ) → is_name_byte b ≡ true → not (is_end b) ≡ true
inside_byte b named = grind (arith, nat_tests)

-- no space or newline stands in a name
pub inside_name : (bytes : List ℕ) → list_all is_name_byte bytes ≡ true → list_all (λ b. not (is_end b)) bytes ≡ true
inside_name [] named = refl
inside_name (b ∷ bs) named =
    let p = both (is_name_byte b) (list_all is_name_byte bs) named in
    ap (λ c. c && list_all (λ d. not (is_end d)) bs) (inside_byte b p.0) ∙ inside_name bs p.1

-- a name behind a space is a word there
pub name_is_word : (text name rest : List ℕ) → text ≡ 32 ∷ name ++ rest → IsTrue (is_name name) → ends_word rest ≡ true
    → SpacedAt text name rest
name_is_word text name rest is named ends = record {
  text_is = is;
  inside =
      inside_name name (both (nat_lt 0 (length name) && nat_le (length name) 32) (list_all is_name_byte name) named).1;
  ends = ends;
}

-- what follows the word that was read is what follows it in the text, and it is that word
pub spaced_alike : {text u x v y : List ℕ} → SpacedAt text u x → SpacedAt text v y → (u ≡ v) × (x ≡ y)
spaced_alike {text} {u} {x} {v} {y} a b =
    run_alike (λ c. not (is_end c)) u v x y a.inside b.inside (stops_words x a.ends) (stops_words y b.ends)
    (let e = sym a.text_is ∙ b.text_is in cc)

pub after_word : {text word x : List ℕ} (name y : List ℕ) → SpacedAt text word x → text ≡ 32 ∷ name ++ y
    → IsTrue (is_name name) → ends_word y ≡ true → x ≡ y
after_word {text} {word} {x} name y a e named ends = (spaced_alike a (name_is_word text name y e named ends)).1

-- the word that was read is the name in the text
pub same_word : {text word x : List ℕ} (name y : List ℕ) → SpacedAt text word x → text ≡ 32 ∷ name ++ y
    → IsTrue (is_name name) → ends_word y ≡ true → IsTrue (is_name word)
same_word {text} {word} {x} name y a e named ends =
    ap is_name (spaced_alike a (name_is_word text name y e named ends)).0 ∙ named

-- what follows the field that was read is what follows it in the text, and it is that field
pub after_field : {text x : List ℕ} {m : ℕ} (n : ℕ) (y : List ℕ) → FieldAt text m x → text ≡ 32 ∷ numeral n ++ y
    → ends_number y ≡ true → x ≡ y
after_field {text} {x} {m} n y a e ends =
    let front : NumberAt (numeral m ++ x) m x = record { text_is = refl; ends = a.ends } in
    let other : NumberAt (numeral m ++ x) n y = record { text_is = let g = sym a.text_is ∙ e in cc; ends = ends } in
    (number_alike front other).1

-- what follows the extent that was read is what follows it in the text
pub after_extent : {text name x : List ℕ} {off len : ℕ} {other y : List ℕ} {o l : ℕ} → ExtentAt text name off len x
    → ExtentAt text other o l y → x ≡ y
after_extent {text} {name} {x} {off} {len} {other} {y} {o} {l} a b =
    let first = name_is_word text name (32 ∷ (numeral off ++ (32 ∷ (numeral len ++ x)))) a.text_is a.named refl in
    let e1 = after_word other _ first b.text_is b.named refl in
    let second : FieldAt (32 ∷ (numeral off ++ (32 ∷ (numeral len ++ x)))) off (32 ∷ (numeral len ++ x)) = record {
      text_is = refl;
      ends = refl;
    } in
    let e2 = after_field o _ second e1 refl in
    let third : FieldAt (32 ∷ (numeral len ++ x)) len x = record { text_is = refl; ends = a.ends } in
    after_field l y third e2 b.ends
