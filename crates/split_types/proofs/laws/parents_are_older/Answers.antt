use Rattle.split_types.proofs.Parents as law
use Rattle.split_types.proofs.laws.parents_are_older.Goals as goal

pub returns : goal.returns
returns c = law.parents-below
