-- Lines at the front of a text.
use Rattle.std.proofs.Common.{◌≡◌, ℕ, List, [], ◌∷◌, ◌++◌, refl, sym, ◌∙◌, subst, arith}
use Rattle.split_types.specs.declared.ids.Pid.{Pid}
use Rattle.split_types.specs.declared.call.Call.{Call}
use Rattle.split_types.specs.Lines.{numeral}
use Rattle.split_types.specs.WorkloadText.{call_fields}
use Rattle.workload_reader.specs.declared.line.Line.{Line}
use Rattle.workload_reader.specs.declared.line.Line.TheVariants as kind
use Rattle.workload_reader.specs.Fields.{NumberAt, IsWithin, behind}
use Rattle.workload_reader.specs.Kinds.{IsNamed}
use Rattle.workload_reader.specs.Line.{IsAt, line_fields}
use Rattle.workload_reader.proofs.Alike.{cancel, number_alike}

-- a line in the place of calls is a call
pub only_call : (l : Line) → IsAt 8 l → (c : Pid × Call) × (line_fields l ≡ call_fields c) × IsNamed c.1
only_call (kind.Call p c) at = ((p, c), refl, at.1)
only_call l at = absurd (omega arith)

-- one number is all of a line
one_number : (m n : ℕ) (x y : List ℕ) → behind (numeral m ∷ []) (10 ∷ x) ≡ behind (numeral n ∷ []) (10 ∷ y) → m ≡ n
one_number m n x y e =
    let a : NumberAt (numeral m ++ 10 ∷ x) m (10 ∷ x) = record { text_is = refl; ends = refl } in
    let b : NumberAt (numeral m ++ 10 ∷ x) n (10 ∷ y) = record { text_is = cancel (32 ∷ []) e; ends = refl } in
    (number_alike a b).0

-- a number out of the range of versions is no version
pub no_version : {text : List ℕ} {n : ℕ} (l : Line) (x rest : List ℕ) → IsAt 0 l
    → text ≡ behind (line_fields l) (10 ∷ rest) → text ≡ behind (numeral n ∷ []) (10 ∷ x) → (IsWithin 1 3 n → ⊥) → ⊥
no_version {text} {n} (kind.Version m) x rest at e is out =
    out (subst (IsWithin 1 3) (one_number m n rest x (sym e ∙ is)) at.1)
no_version l x rest at e is out = absurd (omega arith)
