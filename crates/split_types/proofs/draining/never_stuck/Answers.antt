-- Each actor without a next event leaves something done.
use Rattle.split_types.proofs.StuckLaws as law
use Rattle.split_types.proofs.draining.never_stuck.Goals as goal

pub returns : goal.returns
returns c = law.never_stuck
