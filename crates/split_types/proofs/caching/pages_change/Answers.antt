use Rattle.split_types.proofs.CacheChanges as law
use Rattle.split_types.proofs.caching.pages_change.Goals as goal

pub returns : goal.returns
returns c = law.pages_change
