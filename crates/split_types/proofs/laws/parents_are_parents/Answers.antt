use Rattle.split_types.proofs.Parents as law
use Rattle.split_types.proofs.laws.parents_are_parents.Goals as goal

pub returns : goal.returns
returns c = law.parents_are_parents
