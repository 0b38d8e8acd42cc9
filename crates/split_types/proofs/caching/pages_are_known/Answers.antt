use Rattle.split_types.proofs.HeldLaws as law
use Rattle.split_types.proofs.caching.pages_are_known.Goals as goal

pub returns : goal.returns
returns c = law.pages_are_known
