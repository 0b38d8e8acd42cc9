-- What it is to read a block exactly.
use Rattle.std.specs.Prelude.{◌≡◌, ℕ, List, Option, Some, IfSome}

-- what is read is a value of which the bytes are the spelling, and each such value is what is read; so nothing is
-- read exactly where the bytes spell no value
pub record IsReading {X : Type 0} (IsValue : X → Type 0) (spelling : X → List ℕ) (bytes : List ℕ)
    (read : Option X) : Type 0 where
  pub found : IfSome read (λ x. IsValue x × (bytes ≡ spelling x))
  pub only : (x : X) → IsValue x → bytes ≡ spelling x → read ≡ Some x
