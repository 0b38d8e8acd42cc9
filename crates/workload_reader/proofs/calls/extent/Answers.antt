use Rattle.std.proofs.Common.{refl}
use Rattle.workload_reader.proofs.Alike.{after_field, after_word, same_word, name_is_word}
use Rattle.workload_reader.proofs.calls.extent.Goals as goal

pub returns-in_err-name : goal.returns-in_err-name
returns-in_err-name c = rw c.from_residual-in_err-name.ensures (λ name off len rest at.
    absurd (cc (c.in_err-name.ensures.exact.1 (same_word name _ c.in_ok-word.ensures at.text_is at.named refl))))

pub returns-in_err-off : goal.returns-in_err-off
returns-in_err-off c = rw c.from_residual-in_err-off.ensures (λ name off len rest at.
    c.in_err-off.ensures off _ (record {
      text_is = after_word name _ c.in_ok-word.ensures at.text_is at.named refl;
      ends = refl;
    }))

pub returns-in_err-len : goal.returns-in_err-len
returns-in_err-len c = rw c.from_residual-in_err-len.ensures (λ name off len rest at.
    let e1 = after_word name _ c.in_ok-word.ensures at.text_is at.named refl in
    let e2 = after_field off _ c.in_ok-off.ensures.1 e1 refl in
    c.in_err-len.ensures len rest (record { text_is = e2; ends = at.ends }))

pub returns-in_err-word : goal.returns-in_err-word
returns-in_err-word c =
    rw c.from_residual.ensures
    (λ name off len rest at. c.in_err-word.ensures name _ (name_is_word _ name _ at.text_is at.named refl))
