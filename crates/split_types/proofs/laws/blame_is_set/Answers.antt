use Rattle.split_types.proofs.Blame as law
use Rattle.split_types.proofs.laws.blame_is_set.Goals as goal

pub returns : goal.returns
returns c = law.blame_is_set
