use Rattle.split_types.proofs.CausesLaws as law
use Rattle.split_types.proofs.laws.running_causes.Goals as goal

pub returns : goal.returns
returns c = law.running_causes
