-- The numbers that end a line.
use Rattle.std.proofs.Common.{◌≡◌, ℕ, ◌+◌, ◌<◌, ◌≤◌, ◌∙◌, Bool, true, false, ◌&&◌, List, [], ◌∷◌, ◌++◌, length, map, take, drop, set, get_or, ap, refl, sym, arith}
use Rattle.std.proofs.lemmas.List.{length_push, take_more_set, length-set, map-append, drop_more}
use Rattle.std.proofs.lemmas.List.Folds.{list_all-append}
use Rattle.std.specs.List.{list_all}
use Rattle.split_types.specs.EventText.{numerals, flag}
use Rattle.workload_reader.specs.Fields.{ends_number, FieldAt, behind}
use Rattle.trace_text.specs.EventLines.{is_small, is_wide}
use Rattle.trace_text.specs.declared.numbers.Numbers.{Numbers}
use Rattle.trace_text.specs.Numbers.{small_or_none, wide_or_none, SmallsAt, WidenedBy, LineNumbers, HasCounts, number_words, Holds}
use Rattle.trace_text.proofs.Fields.{ends_behind, numbers_alike, numbers_after, behind_push, behind_append}

pub smalls_begin : (text small : List ℕ) (within : Bool) → length small ≡ 7 → within ≡ true
    → SmallsAt text 0 small within text
smalls_begin text small within places is = record {
  ns = [];
  number = refl;
  text_is = refl;
  ends = λ none. absurd (omega arith);
  small_is = refl;
  within_is = is;
  places = places;
}

both_true : (b : Bool) → (b && true) ≡ b
both_true true = refl
both_true false = refl

-- whether one more fits too
one_fits : (ns : List ℕ) (n : ℕ) → list_all is_small (ns ++ n ∷ []) ≡ (list_all is_small ns && is_small n)
one_fits ns n = list_all-append is_small ns (n ∷ []) ∙ ap (λ b. list_all is_small ns && b) (both_true (is_small n))

pub smalls_more : {text small rest : List ℕ} {i : ℕ} {within : Bool} (n value : ℕ) (fits both : Bool) (more : List ℕ)
    → SmallsAt text i small within rest → i < 7
    → FieldAt rest n more → value ≡ small_or_none n → fits ≡ is_small n → both ≡ (within && fits)
    → SmallsAt text (i + 1) (set small i value) both more
smalls_more {text} {small} {rest} {i} {within} n value fits both more s few at value_is fits_is both_is = record {
  ns = s.ns ++ n ∷ [];
  number = omega (arith, length_push s.ns n, s.number);
  text_is = s.text_is ∙ ap (behind (numerals s.ns)) at.text_is ∙ sym (behind_push s.ns n more);
  ends = λ _. at.ends;
  small_is = take_more_set small i value (omega (arith, s.places))
      ∙ ap (λ l. l ++ value ∷ []) s.small_is
      ∙ ap (λ v. map small_or_none s.ns ++ v ∷ []) value_is
      ∙ sym (map-append small_or_none s.ns (n ∷ []));
  within_is = both_is ∙ ap (λ b. b && fits) s.within_is ∙ ap (λ b. list_all is_small s.ns && b) fits_is
      ∙ sym (one_fits s.ns n);
  places = length-set small i value ∙ s.places;
}

-- what follows the numbers read so far is what follows them in the text
rest_of : {text small rest : List ℕ} {i : ℕ} {within : Bool} → SmallsAt text i small within rest → (ns more : List ℕ)
    → i ≤ length ns → ends_number more ≡ true
    → text ≡ behind (numerals ns) more → rest ≡ behind (numerals (drop i ns)) more
rest_of {text} {small} {rest} {i} {within} s ns more few ends e =
    numbers_after s.ns ns rest more (omega (arith, s.number, few)) (λ some. s.ends (omega (arith, s.number, some))) ends
    (sym s.text_is ∙ e)
    ∙ ap (λ k. behind (numerals (drop k ns)) more) s.number

pub smalls_stop : {text small rest : List ℕ} {i : ℕ} {within : Bool} → SmallsAt text i small within rest
    → ((n : ℕ) (more : List ℕ) → FieldAt rest n more → ⊥)
    → (ns more : List ℕ) → i < length ns → ends_number more ≡ true → text ≡ behind (numerals ns) more → ⊥
smalls_stop {text} {small} {rest} {i} {within} s none ns more few ends e =
    let after = rest_of s ns more (omega arith) ends e in
    let next = drop_more ns i 0 few in
    none (get_or ns i 0) (behind (numerals (drop (i + 1) ns)) more) (record {
      text_is = after ∙ ap (λ l. behind (numerals l) more) next;
      ends = ends_behind (drop (i + 1) ns) more ends;
    })

-- the numbers of two lengths, behind which a line ends
lasts : (x : LineNumbers) (rest : List ℕ) → behind (number_words x) (10 ∷ rest)
    ≡ behind (numerals x.0) (behind (numerals x.1) (10 ∷ rest))
lasts x rest = behind_append x.0 x.1 (10 ∷ rest)

lasts_end : (x : LineNumbers) (rest : List ℕ) → ends_number (behind (numerals x.1) (10 ∷ rest)) ≡ true
lasts_end x rest = ends_behind x.1 (10 ∷ rest) refl

pub none_small : {text : List ℕ} {count : ℕ} → ((ns more : List ℕ) → length ns ≡ count → ends_number more ≡ true
    → text ≡ behind (numerals ns) more → ⊥)
    → (has_wide : Bool) (x : LineNumbers) (rest : List ℕ) → HasCounts count has_wide x
    → text ≡ behind (number_words x) (10 ∷ rest) → ⊥
none_small none has_wide x rest counts e = none x.0 (behind (numerals x.1) (10 ∷ rest)) counts.0 (lasts_end x rest) (e
    ∙ lasts x rest)

after_smalls : {text small rest : List ℕ} {count : ℕ} {within : Bool} → SmallsAt text count small within rest
    → (x : LineNumbers) (more : List ℕ) → length x.0 ≡ count
    → text ≡ behind (number_words x) (10 ∷ more) → rest ≡ behind (numerals x.1) (10 ∷ more)
after_smalls {text} {small} {rest} {count} {within} s x more number e =
    (numbers_alike s.ns x.0 rest (behind (numerals x.1) (10 ∷ more)) (s.number
    ∙ sym number) (λ some. s.ends (omega (arith, s.number, some))) (λ _. lasts_end x more)
    (sym s.text_is ∙ e ∙ lasts x more)).1

pub none_wide : {text small rest : List ℕ} {count : ℕ} {within : Bool} → SmallsAt text count small within rest
    → (has_wide : Bool)
    → ((ws more : List ℕ) → length ws ≡ flag has_wide → ends_number more ≡ true → rest ≡ behind (numerals ws) more → ⊥)
    → (x : LineNumbers) (more : List ℕ) → HasCounts count has_wide x → text ≡ behind (number_words x) (10 ∷ more) → ⊥
none_wide s has_wide none x more counts e = none x.1 (10 ∷ more) counts.1 refl (after_smalls s x more counts.0 e)

pub none_end : {text small rest last : List ℕ} {count : ℕ} {within has_wide : Bool} {old new : Numbers}
    → SmallsAt text count small within rest → WidenedBy old new rest has_wide last
    → ((more : List ℕ) → last ≡ 10 ∷ more → ⊥) → (x : LineNumbers) (more : List ℕ) → HasCounts count has_wide x
    → text ≡ behind (number_words x) (10 ∷ more) → ⊥
none_end {text} {small} {rest} {last} {count} {within} {has_wide} s w none x more counts e =
    none more (numbers_alike w.ws x.1 last (10 ∷ more) (w.number ∙ sym counts.1) w.ends (λ _. refl) (sym w.text_is
    ∙ after_smalls s x more counts.0 e)).1

pub all_numbers : {text rest last : List ℕ} {count : ℕ} {has_wide : Bool} {old new : Numbers}
    → SmallsAt text count old.small old.within rest → WidenedBy old new rest has_wide last
    → (more : List ℕ) → last ≡ 10 ∷ more → (x : LineNumbers) × HasCounts count has_wide x
    × (text ≡ behind (number_words x) (10 ∷ more)) × Holds count has_wide x new
all_numbers {text} {rest} {last} {count} {has_wide} {old} {new} s w more is = (
  (s.ns, w.ws),
  (s.number, w.number),
  s.text_is ∙ ap (behind (numerals s.ns)) (w.text_is ∙ ap (behind (numerals w.ws)) is)
      ∙ sym (behind_append s.ns w.ws (10 ∷ more)),
  record {
    small = ap (take count) w.small_is ∙ s.small_is;
    wide = w.wide_is;
    within = w.within_is ∙ ap (λ b. b && list_all is_wide w.ws) s.within_is;
    places = ap length w.small_is ∙ s.places;
  },
)

-- no number of 64 bits follows
pub none_widens : {text : List ℕ} → ((n : ℕ) (rest : List ℕ) → FieldAt text n rest → ⊥) → (ws more : List ℕ)
    → length ws ≡ 1 → ends_number more ≡ true → text ≡ behind (numerals ws) more → ⊥
none_widens none [] more one ends e = absurd (omega arith)
none_widens none (w ∷ []) more one ends e = none w more (record { text_is = e; ends = ends })
none_widens none (w ∷ v ∷ ws) more one ends e = absurd (omega arith)

-- one does
pub one_wide : {text rest : List ℕ} (old : Numbers) (n value : ℕ) (fits both : Bool) → FieldAt text n rest
    → value ≡ wide_or_none n → fits ≡ is_wide n → both ≡ (old.within && fits)
    → WidenedBy old (record { small = old.small; wide = value; within = both }) text true rest
one_wide {text} {rest} old n value fits both at value_is fits_is both_is = record {
  ws = n ∷ [];
  number = refl;
  text_is = at.text_is;
  ends = λ _. at.ends;
  small_is = refl;
  wide_is = ap (λ v. v ∷ []) value_is;
  within_is = both_is ∙ ap (λ b. old.within && b) (fits_is ∙ sym (both_true (is_wide n)));
}
