use Rattle.split_types.proofs.CacheTouches as law
use Rattle.split_types.proofs.caching.touches_change.Goals as goal

pub returns : goal.returns
returns c = law.touches_change
