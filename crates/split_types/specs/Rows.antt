-- Tables: the first row whose test holds decides.
use Rattle.std.specs.Prelude.{Bool, if◌then◌else◌}

-- where the test holds it is `next`, else what the rows below say
infixr 3 ◌⇒◌∣◌
abbrev pub ◌⇒◌∣◌ : {A : Type 0} → Bool → A → A → A
test ⇒ next ∣ rows = if test then next else rows
