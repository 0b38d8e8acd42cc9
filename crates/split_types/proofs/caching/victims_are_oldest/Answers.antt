use Rattle.split_types.proofs.VictimLaws as law
use Rattle.split_types.proofs.caching.victims_are_oldest.Goals as goal

pub returns : goal.returns
returns c = law.victims_are_oldest
