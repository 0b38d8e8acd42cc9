use Rattle.split_types.proofs.WriteLaws as law
use Rattle.split_types.proofs.caching.writes_stay_apart.Goals as goal

pub returns : goal.returns
returns c = law.writes_stay_apart
