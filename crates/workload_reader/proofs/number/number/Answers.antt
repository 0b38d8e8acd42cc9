use Rattle.std.proofs.Common.{sym, ap, ◌∙◌, not, refl}
use Rattle.std.proofs.lemmas.List.{nil_from_length}
use Rattle.workload_reader.proofs.Alike.{no_number_at_end, no_number_at, no_number_at_zero, zero_at, digits_at}
use Rattle.workload_reader.proofs.number.number.Goals as goal

pub returns-in_err-first : goal.returns-in_err-first
returns-in_err-first c =
    let none = nil_from_length c.args.text.now c.in_err-first.ensures.cases in
    rw c.from_residual.ensures (λ n rest at. no_number_at_end (rw none at at))

pub returns-then-starts_with_digit : goal.returns-then-starts_with_digit
returns-then-starts_with_digit c = λ n rest at.
    no_number_at_zero (c.starts_with_digit.ensures ∙ ap not c.if-starts_with_digit.true)
    (rw (c.in_ok-first.ensures.cases.0, c.if-first-eq48.true) at at)

pub returns-else-starts_with_digit : goal.returns-else-starts_with_digit
returns-else-starts_with_digit c = (
  0,
  rw (c.in_ok-first.ensures.cases.0, c.if-first-eq48.true)
      (zero_at _ (c.starts_with_digit.ensures ∙ ap not c.if-starts_with_digit.false)),
  refl,
)

pub returns-then-is_ascii_digit : goal.returns-then-is_ascii_digit
returns-then-is_ascii_digit c =
    let found = c.more_digits.ensures in (
      found.0,
      rw c.in_ok-first.ensures.cases.0
          (digits_at (sym c.is_ascii_digit.ensures.value ∙ c.if-is_ascii_digit.true) c.from.ensures found.1),
      found.2,
    )

pub returns-else-is_ascii_digit : goal.returns-else-is_ascii_digit
returns-else-is_ascii_digit c = λ n rest at.
    no_number_at (sym c.is_ascii_digit.ensures.value ∙ c.if-is_ascii_digit.false)
    (rw c.in_ok-first.ensures.cases.0 at at)
