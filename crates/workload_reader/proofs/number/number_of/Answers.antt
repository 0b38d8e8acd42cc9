-- Nothing follows the number, or it isn't all of the word.
use Rattle.std.proofs.Common.{◌≡◌, ◌≢◌, ℕ, ◌==◌, ◌<◌, ◌^◌, ◌∙◌, false, List, [], ◌++◌, length, Option, Some, None, MatchOption}
use Rattle.std.proofs.Common.{ap, refl, sym, arith}
use Rattle.std.proofs.lemmas.Bool.{false≢true}
use Rattle.std.proofs.lemmas.List.{append-nil}
use Rattle.split_types.specs.Lines.{numeral}
use Rattle.workload_reader.specs.Fields.{NumberAt, Keeps, IsWithin}
use Rattle.workload_reader.proofs.Alike.{number_alike}
use Rattle.workload_reader.proofs.Sound.{gone}
use Rattle.workload_reader.proofs.number.number_of.Goals as goal

-- a word that is a number has it at its front
alone : {word : List ℕ} (n : ℕ) → word ≡ numeral n → NumberAt word n []
alone n is = record { text_is = is ∙ sym (append-nil (numeral n)); ends = refl }

whole : {word rest : List ℕ} (value : Option ℕ) (n : ℕ) → NumberAt word n rest → Keeps (IsWithin 0 4294967295) n value
    → rest ≡ [] → MatchOption value ((m : ℕ) → m < 2 ^ 32 → word ≢ numeral m) (λ m. word ≡ numeral m)
whole {word} {rest} None n at out none = λ m small is.
    let same = (number_alike at (alone m is)).0 in
    out (omega arith, omega (arith, same, small))
whole {word} {rest} (Some m) n at keeps none =
    at.text_is ∙ ap (λ r. numeral n ++ r) none ∙ append-nil (numeral n) ∙ ap numeral (sym keeps.0)

some_rest : (rest : List ℕ) → false ≡ (length rest == 0) → rest ≡ [] → ⊥
some_rest rest some none = false≢true (some ∙ ap (λ l. length l == 0) none)

pub returns-in_err-value : goal.returns-in_err-value
returns-in_err-value c = rw c.from_residual.ensures (λ n small is. c.in_err-value.ensures n [] (alone n is))

pub returns-then-is_empty : goal.returns-then-is_empty
returns-then-is_empty c =
    let found = c.in_ok-value.ensures in
    whole _ found.0 found.1 found.2 (gone _ c.if-is_empty.ensures)

pub returns-else-is_empty : goal.returns-else-is_empty
returns-else-is_empty c = λ n small is.
    some_rest _ c.if-is_empty.ensures (number_alike c.in_ok-value.ensures.1 (alone n is)).1
