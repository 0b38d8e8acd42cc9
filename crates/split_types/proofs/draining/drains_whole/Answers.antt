-- Each turn adds an event, and there are fewer than the bound.
use Rattle.split_types.proofs.DrainLaws as law
use Rattle.split_types.proofs.draining.drains_whole.Goals as goal

pub returns : goal.returns
returns c = law.drains_whole
