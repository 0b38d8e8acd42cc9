-- One mark is one process.
use Rattle.cause_set.proofs.Marks.{marked-one}
use Rattle.cause_set.proofs.Words.{one_mark-are}
use Rattle.cause_set.proofs.causes.Causes.one.Goals as goal

pub returns : goal.returns
returns c = marked-one c.args.p.0 c.requires.first c.requires.last

pub invariant_of-result : goal.invariant_of-result
invariant_of-result c = one_mark-are c.args.p.0 c.requires.first c.requires.last
