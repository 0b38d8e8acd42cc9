-- The outcome of two tests of a line.
use Rattle.std.specs.Prelude.{◌≡◌, Result, Ok, Err}
use Rattle.workload_reader.specs.declared.cause.Cause.{Cause}
use Rattle.workload_reader.specs.declared.cause.Cause.TheVariants as cause

-- the value where it is in range and what it refers to exists, else which of the two it fails first
abbrev pub Weighed : {X : Type 0} → (X → Type 0) → (X → Type 0) → X → Result X Cause → Type 0
Weighed InRange Refers x (Ok y) = (y ≡ x) × InRange x × Refers x
Weighed InRange Refers x (Err cause.Range) = InRange x → ⊥
Weighed InRange Refers x (Err cause.Ref) = InRange x × (Refers x → ⊥)
Weighed InRange Refers x (Err _) = ⊥
