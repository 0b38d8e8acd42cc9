use Rattle.split_types.proofs.CacheKeeps as law
use Rattle.split_types.proofs.caching.pins_change.Goals as goal

pub returns : goal.returns
returns c = law.pins_change
