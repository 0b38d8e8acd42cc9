use Rattle.split_types.proofs.PromiseJournal as law
use Rattle.split_types.proofs.journaling.syncs_are_committed.Goals as goal

pub returns : goal.returns
returns c = law.syncs_are_committed
