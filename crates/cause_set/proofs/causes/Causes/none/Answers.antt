-- No marks are no processes.
use Rattle.cause_set.proofs.Marks.{marked-none}
use Rattle.cause_set.proofs.Words.{no_marks-are}
use Rattle.cause_set.proofs.causes.Causes.none.Goals as goal

pub returns : goal.returns
returns c = marked-none

pub invariant_of-result : goal.invariant_of-result
invariant_of-result c = no_marks-are
