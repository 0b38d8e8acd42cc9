use Rattle.split_types.proofs.Blame as law
use Rattle.split_types.proofs.laws.tag_is_blame.Goals as goal

pub returns : goal.returns
returns c = law.tag-blame
