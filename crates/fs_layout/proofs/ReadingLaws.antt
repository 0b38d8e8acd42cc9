-- Reading by fields.
use Rattle.std.proofs.Common.{◌≡◌, ℕ, List, Bool, true, false, Some, None, refl, ap, IsTrue}
use Rattle.std.specs.Prelude.{◌↔◌}
use Rattle.std.specs.Bool.{then_some}
use Rattle.fs_layout.specs.Reading.{IsReading}

-- What the fields of a block give is read exactly, where they give each value that the block spells, and a test says
-- whether they give one.
pub by_fields : {X : Type 0} (IsValue : X → Type 0) (spelling : X → List ℕ) (bytes : List ℕ) (x : X) (test : Bool)
    → ((y : X) → IsValue y → bytes ≡ spelling y → x ≡ y) → (IsTrue test ↔ (IsValue x × (bytes ≡ spelling x)))
    → IsReading IsValue spelling bytes (then_some test x)
by_fields IsValue spelling bytes x true again says = record {
  found = says.0 refl;
  only =
      λ y is spelled. ap Some (again y is spelled);
}
by_fields IsValue spelling bytes x false again says = record {
  found = tt;
  only = λ y is spelled.
      let same = again y is spelled in
      let both : IsValue x × (bytes ≡ spelling x) = rw same (is, spelled) in
      let e : IsTrue false = says.1 both in absurd cc;
}

-- Nothing is read where no value is spelled.
pub none_read : {X : Type 0} (IsValue : X → Type 0) (spelling : X → List ℕ) (bytes : List ℕ) → ((y : X) → IsValue y
    → bytes ≡ spelling y → ⊥) → IsReading IsValue spelling bytes None
none_read IsValue spelling bytes no_value = record { found = tt; only = λ y is spelled. absurd (no_value y is spelled) }
