-- Counts of the events of each kind bound their number.
use Rattle.split_types.proofs.BoundLaws as law
use Rattle.split_types.proofs.draining.stays_below.Goals as goal

pub returns : goal.returns
returns c = law.stays_below
