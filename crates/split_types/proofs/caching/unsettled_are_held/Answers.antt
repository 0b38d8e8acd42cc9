use Rattle.split_types.proofs.CacheKinds as law
use Rattle.split_types.proofs.caching.unsettled_are_held.Goals as goal

pub returns : goal.returns
returns c = law.unsettled_are_held
