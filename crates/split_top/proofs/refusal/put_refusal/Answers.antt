-- The words of the line, one after another.
use Rattle.std.proofs.Common.{◌≡◌, ◌∷◌, ◌++◌, ◌∙◌, [], List, ℕ, codes, ap, sym}
use Rattle.std.proofs.lemmas.List.{append-nil}
use Rattle.split_types.specs.Lines.{numeral}
use Rattle.line_printer.proofs.Shared.{and_then, in_all, whole_line}
use Rattle.split_top.specs.Refusals.{cause_word, refusal_text}
use Rattle.split_top.proofs.refusal.put_refusal.Goals as goal

pub returns : goal.returns
unfolding refusal_text
returns g c =
    let cause = cause_word c.args.fault.cause in
    let last = in_all ((32 ∷ cause) ++ []) c.put_word-2.ensures (ap (λ l. 32 ∷ l) c.cause_word.ensures
    ∙ sym (append-nil (32 ∷ cause))) in
    whole_line (codes "refused") (codes "line" ∷ (numeral c.args.fault.line ++ codes ":") ∷ cause ∷ []) c.put.ensures
    (and_then c.put_word.ensures (and_then c.put_place.ensures last)) c.end_line.ensures
