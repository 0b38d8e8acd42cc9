use Rattle.split_types.proofs.Blame as law
use Rattle.split_types.proofs.laws.blamed_are_blamed.Goals as goal

pub returns : goal.returns
returns c = law.blamed_are_blamed
