-- What stands on a sheet.
use Rattle.std.proofs.Common.{◌≡◌, ◌++◌, ◌∙◌, [], List, ℕ, false, ap, sym}
use Rattle.std.proofs.lemmas.List.{append-nil}
use Rattle.line_printer.specs.declared.sheet.Sheet.{Sheet}
use Rattle.line_printer.specs.Puts.{Puts}
use Rattle.line_printer.specs.OnSheet.{DueOnSheet}

-- a text that was put on an empty sheet stands there alone
pub on_sheet : {start now : Sheet} {text : List ℕ} → start.text.items ≡ [] → Puts DueOnSheet start now text
    → now.cut ≡ false → now.text.items ≡ text
on_sheet {start} {now} {text} empty puts whole =
    let at_first : DueOnSheet start text start (text ++ []) = λ _.
    ap (λ l. start.text.items ++ l) (sym (append-nil text)) in
    sym (append-nil now.text.items) ∙ sym (puts.printed start text [] at_first whole) ∙ ap (λ l. l ++ text) empty
