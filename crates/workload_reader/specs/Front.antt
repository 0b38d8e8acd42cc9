-- What reading the lines of a workload gives.
use Rattle.std.specs.Prelude.{◌≡◌, ℕ, ◌+◌, List, Result, Ok, Err}
use Rattle.std.specs.Borrow.{Bor}
use Rattle.split_types.specs.declared.workload.Workload.{Workload}
use Rattle.workload_reader.specs.declared.fault.ReadWorkload.{ReadWorkload}
use Rattle.workload_reader.specs.declared.fault.ReadWorkload.TheVariants as fault
use Rattle.workload_reader.specs.Refusal.{ReadsFront, RefusesFront}

-- the lines from the one of number first on are those of a workload, or this is the first of them that is refused
abbrev pub Fronts : List ℕ → ℕ → Result (Workload × Bor (List ℕ) × ℕ) ReadWorkload → Type 0
Fronts text first (Ok r) = (lines : ℕ) × (first + lines ≡ r.2) × ReadsFront text r.0 lines r.1.now
Fronts text first (Err (fault.Line f)) = (lines : ℕ) × (first + lines ≡ f.line) × RefusesFront text lines f.cause
Fronts text first (Err fault.Memory) = Unit {0}
