-- What a function that prints hands to a printer.
use Rattle.std.specs.Prelude.{ℕ, List, ◌++◌}

-- exactly these bytes: wherever they and a rest were due, of whatever text, the rest is due now
pub record Puts {P : Type 0} (due : P → List ℕ → P → List ℕ → Type 0) (old new : P) (bytes : List ℕ) : Type 0 where
  pub printed : (start : P) (whole rest : List ℕ) → due start whole old (bytes ++ rest) → due start whole new rest
