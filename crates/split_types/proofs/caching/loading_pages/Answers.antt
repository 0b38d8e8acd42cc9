use Rattle.split_types.proofs.CacheKinds as law
use Rattle.split_types.proofs.caching.loading_pages.Goals as goal

pub returns : goal.returns
returns c = law.loading_pages
