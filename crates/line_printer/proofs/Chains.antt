-- Chains of prints.
use Rattle.std.proofs.Common.{◌≡◌, ◌++◌, List, ℕ, sym, subst, append_assoc}
use Rattle.line_printer.specs.Puts.{Puts}

-- one print after another
pub and_then : {P : Type 0} {due : P → List ℕ → P → List ℕ → Type 0} {old was now : P} {x y : List ℕ}
    → Puts due old was x → Puts due was now y → Puts due old now (x ++ y)
and_then {P} {due} {old} {was} {now} {x} {y} p q = record {
  printed = λ start whole rest was_due. q.printed start whole rest
      (p.printed start whole (y ++ rest) (subst (λ l. due start whole old l) (append_assoc x y rest) was_due));
}

-- the bytes in another form
pub in_all : {P : Type 0} {due : P → List ℕ → P → List ℕ → Type 0} {old now : P} {x : List ℕ} (y : List ℕ)
    → Puts due old now x → x ≡ y → Puts due old now y
in_all {P} {due} {old} {now} {x} y p e = record {
  printed = λ start whole rest was_due. p.printed start whole rest
      (subst (λ l. due start whole old (l ++ rest)) (sym e) was_due);
}
