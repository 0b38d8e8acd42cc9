-- Numbers that no process has.
use Rattle.std.proofs.Common.{◌≡◌, ℕ, false, [], ◌∷◌, arith}
use Rattle.std.proofs.lemmas.Bool.Decides.{nat_tests}
use Rattle.split_types.specs.Sets.{pids, has, union_of}
use Rattle.split_types.proofs.Shared.{has-union_of, none-is_set, union-is_set, set-same}

pub stranger : (p : ℕ) → has pids p ≡ false → [] ≡ union_of ((p ∷ []) ∷ [])
stranger p not_there =
    set-same [] (union_of ((p ∷ []) ∷ [])) none-is_set (union-is_set ((p ∷ []) ∷ [])) (λ q h.
    grind (arith, nat_tests, has-union_of ((p ∷ []) ∷ []) q))
