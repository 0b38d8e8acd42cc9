use Rattle.split_types.proofs.TagLaws as law
use Rattle.split_types.proofs.laws.dirty_have_causes.Goals as goal

pub returns : goal.returns
returns c = law.dirty_have_causes
