-- The words joined bit by bit hold the processes of both sets.
use Rattle.std.proofs.Common.{[], ◌∷◌, ap, ◌∙◌}
use Rattle.split_types.specs.Sets.{union_of}
use Rattle.cause_set.specs.Marks.{marked}
use Rattle.cause_set.proofs.Marks.{marked-union}
use Rattle.cause_set.proofs.Words.{joined-are}
use Rattle.cause_set.proofs.causes.Causes.union.Goals as goal

pub returns : goal.returns
returns c =
    marked-union c.self.inside.marks c.other.inside.marks
    ∙ ap (λ s. union_of (s ∷ marked c.other.inside.marks ∷ [])) c.self.view_is
    ∙ ap (λ s. union_of (c.args.self.now ∷ s ∷ [])) c.other.view_is

pub invariant_of-result : goal.invariant_of-result
invariant_of-result c = joined-are c.self.inside.marks c.other.inside.marks c.self.invariant c.other.invariant
