-- What is due on a sheet.
use Rattle.std.specs.Prelude.{◌≡◌, ℕ, List, ◌++◌, false}
use Rattle.line_printer.specs.declared.sheet.Sheet.{Sheet}

-- unless memory was wanting: what stands on it, and the rest, is what stood on it at first, and the whole text
abbrev pub DueOnSheet : Sheet → List ℕ → Sheet → List ℕ → Type 0
DueOnSheet start whole now rest = now.cut ≡ false → start.text.items ++ whole ≡ now.text.items ++ rest
