use Rattle.std.proofs.Common.{refl}
use Rattle.workload_reader.proofs.Alike.{after_word, same_word, name_is_word}
use Rattle.workload_reader.proofs.calls.last_name.Goals as goal

pub returns-in_err-name : goal.returns-in_err-name
returns-in_err-name c = rw c.from_residual-in_err-name.ensures (λ name rest named e.
    absurd (cc (c.in_err-name.ensures.exact.1 (same_word name _ c.in_ok-word.ensures e named refl))))

pub returns-in_err-rest : goal.returns-in_err-rest
returns-in_err-rest c =
    rw c.from_residual-in_err-rest.ensures
    (λ name rest named e. c.in_err-rest.ensures rest (after_word name _ c.in_ok-word.ensures e named refl))

pub returns-in_err-word : goal.returns-in_err-word
returns-in_err-word c =
    rw c.from_residual.ensures (λ name rest named e. c.in_err-word.ensures name _ (name_is_word _ name _ e named refl))
