-- Each turn is the next event of its actor.
use Rattle.split_types.proofs.DrainLaws as law
use Rattle.split_types.proofs.draining.plays_legal.Goals as goal

pub returns : goal.returns
returns c = law.play_legal
