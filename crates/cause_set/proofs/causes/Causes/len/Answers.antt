-- The marks of all processes are the set.
use Rattle.std.proofs.Common.{ℕ, List, length, subst, ap, sym, ◌∙◌}
use Rattle.split_types.specs.Sets.{IsSet}
use Rattle.cause_set.proofs.Marks.{marked-is_set}
use Rattle.cause_set.proofs.Counts.{length-marked}
use Rattle.cause_set.proofs.causes.Causes.len.Goals as goal

pub returns-clause-value : goal.returns-clause-value
returns-clause-value c = c.marks_below.ensures ∙ sym (length-marked c.self.inside.marks) ∙ ap length c.self.view_is

pub returns-clause-rising : goal.returns-clause-rising
returns-clause-rising c =
    let P : List ℕ → Type 0 = λ s. IsSet s in subst P c.self.view_is (marked-is_set c.self.inside.marks)
