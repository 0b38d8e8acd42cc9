-- Five lines.
use Rattle.std.proofs.Common.{◌≡◌, List, [], ◌∷◌, ◌++◌, ℕ, length, slice_index_or, ap, subst, sym, refl, codes, arith}
use Rattle.split_types.specs.Lines.{line}
use Rattle.split_types.specs.ReportText.{made_by, made_lines}
use Rattle.line_printer.specs.Puts.{Puts}
use Rattle.line_printer.proofs.Shared.{and_then}
use Rattle.billing_report.proofs.stack.put_stack.Goals as goal

five : (made : List ℕ) → length made ≡ 5 → slice_index_or made 0 0 ∷ slice_index_or made 1 0 ∷ slice_index_or made 2 0 ∷
    slice_index_or made 3 0 ∷ slice_index_or made 4 0 ∷ [] ≡ made
five (wb ∷ cm ∷ dq ∷ dn ∷ tk ∷ []) there = refl
five (wb ∷ cm ∷ dq ∷ dn ∷ tk ∷ more ∷ rest) there = absurd (omega (arith, there))
five [] there = absurd (omega (arith, there))
five (wb ∷ []) there = absurd (omega (arith, there))
five (wb ∷ cm ∷ []) there = absurd (omega (arith, there))
five (wb ∷ cm ∷ dq ∷ []) there = absurd (omega (arith, there))
five (wb ∷ cm ∷ dq ∷ dn ∷ []) there = absurd (omega (arith, there))

five_lines : {P : Type 0} {due : P → List ℕ → P → List ℕ → Type 0} {a b c d e f : P} (wb cm dq dn tk : ℕ)
    → Puts due a b (line (made_by (codes "wb") wb)) → Puts due b c (line (made_by (codes "cm") cm))
    → Puts due c d (line (made_by (codes "dq") dq))
    → Puts due d e (line (made_by (codes "dn") dn)) → Puts due e f (line (made_by (codes "tk") tk))
    → Puts due a f (made_lines (wb ∷ cm ∷ dq ∷ dn ∷ tk ∷ []))
five_lines wb cm dq dn tk p q r s t = and_then (and_then (and_then (and_then p q) r) s) t

pub returns : goal.returns
returns g c =
    let made = c.args.made.now in
    subst (λ m. Puts g.P.Printer.due c.args.out.now c.put_made_by-5.new.out (made_lines m)) (five made c.requires)
    (five_lines (slice_index_or made 0 0) (slice_index_or made 1 0) (slice_index_or made 2 0) (slice_index_or made 3 0)
    (slice_index_or made 4 0)
    c.put_made_by.ensures c.put_made_by-2.ensures c.put_made_by-3.ensures c.put_made_by-4.ensures
    c.put_made_by-5.ensures)
