-- The marks of a set make a set.
use Rattle.std.proofs.Common.{ℕ, List, subst}
use Rattle.split_types.specs.Sets.{IsSet}
use Rattle.cause_set.proofs.Marks.{marked-is_set}
use Rattle.cause_set.proofs.causes.Causes.rises.Goals as goal

pub returns : goal.returns
returns c = let P : List ℕ → Type 0 = λ s. IsSet s in subst P c.self.view_is (marked-is_set c.self.inside.marks)
