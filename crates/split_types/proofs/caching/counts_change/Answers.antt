use Rattle.split_types.proofs.CacheNumbers as law
use Rattle.split_types.proofs.caching.counts_change.Goals as goal

pub returns : goal.returns
returns c = law.counts_change
