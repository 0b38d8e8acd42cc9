-- Digits that are read one after another.
use Rattle.std.proofs.Common.{◌≡◌, ℕ, ◌+◌, ◌-◌, ◌*◌, ◌^◌, ◌<◌, ◌∙◌, true, false, List, [], ◌∷◌, ◌++◌, length, take}
use Rattle.std.proofs.Common.{drop, get_or, Option, Some, ap, sym, arith, append_assoc, not}
use Rattle.std.proofs.lemmas.Bool.Decides.{nat_tests}
use Rattle.std.proofs.lemmas.List.{append-nil, take_more, drop_more, take-append-drop, drop_all}
use Rattle.std.specs.Char.{is_ascii_digit}
use Rattle.split_types.specs.Lines.{numeral}
use Rattle.split_types.proofs.Shared.{numeral_more}
use Rattle.workload_reader.specs.Fields.{ends_number, DigitsAt, narrowed}

-- the number whose digits are those of the first and the first i bytes of the text
pub record SoFar (first : ℕ) (text : List ℕ) (i : ℕ) (value : Option ℕ) : Type 0 where
  pub number : ℕ
  pub above : 0 < number
  pub value_is : value ≡ narrowed number
  pub word_is : numeral number ≡ numeral first ++ take i text

pub begun : (first : ℕ) (text : List ℕ) → 0 < first → first < 2 ^ 64 → SoFar first text 0 (Some first)
begun first text above small = record {
  number = first;
  above = above;
  value_is = grind (arith, nat_tests);
  word_is = sym (append-nil (numeral first));
}

pub goes_on : (first : ℕ) (text : List ℕ) (i : ℕ) (value later : Option ℕ) → SoFar first text i value → i < length text
    → is_ascii_digit (get_or text i 0) ≡ true
    → ((n : ℕ) → value ≡ narrowed n → later ≡ narrowed (n * 10 + (get_or text i 0 - 48)))
    → SoFar first text (i + 1) later
goes_on first text i value later s within digit step =
    let d = get_or text i 0 in
    let small : d - 48 < 10 = grind (arith, nat_tests) in
    let whole : 48 + (d - 48) ≡ d = grind (arith, nat_tests) in
    record {
      number = s.number * 10 + (d - 48);
      above = let a = s.above in omega arith;
      value_is = step s.number s.value_is;
      word_is = numeral_more s.number (d - 48) s.above small
          ∙ ap (λ l. l ++ (48 + (d - 48)) ∷ []) s.word_is
          ∙ ap (λ x. (numeral first ++ take i text) ++ x ∷ []) whole
          ∙ append_assoc (numeral first) (take i text) (d ∷ [])
          ∙ ap (λ l. numeral first ++ l) (sym (take_more text i 0 within));
    }

-- no digit follows
ends_at : (text : List ℕ) (i : ℕ) → i < length text → is_ascii_digit (get_or text i 0) ≡ false
    → ends_number (drop i text) ≡ true
ends_at text i within no_digit = ap ends_number (drop_more text i 0 within) ∙ ap not no_digit

pub stopped : (first : ℕ) (text : List ℕ) (i : ℕ) (value : Option ℕ) → SoFar first text i value
    → ends_number (drop i text) ≡ true → (n : ℕ) × DigitsAt first text n (drop i text) × (value ≡ narrowed n)
stopped first text i value s ends = (
  s.number,
  record {
    digits = take i text;
    text_is = sym (take-append-drop i text);
    word_is = s.word_is;
    ends = ends;
  },
  s.value_is,
)

pub stops_at : (first : ℕ) (text : List ℕ) (i : ℕ) (value : Option ℕ) → SoFar first text i value → i < length text
    → is_ascii_digit (get_or text i 0) ≡ false → (n : ℕ) × DigitsAt first text n (drop i text) × (value ≡ narrowed n)
stops_at first text i value s within no_digit = stopped first text i value s (ends_at text i within no_digit)

pub stops_at_end : (first : ℕ) (text : List ℕ) (i : ℕ) (value : Option ℕ) → SoFar first text i value → i ≡ length text
    → (n : ℕ) × DigitsAt first text n (drop (length text) text) × (value ≡ narrowed n)
stops_at_end first text i value s all =
    rw (← all) (stopped first text i value s (ap ends_number (drop_all i text (omega arith))))
