use Rattle.split_types.proofs.OpenLaws as law
use Rattle.split_types.proofs.laws.dirty_are_open.Goals as goal

pub returns : goal.returns
returns c = law.dirty_are_open
