use Rattle.split_types.proofs.PromiseJournal as law
use Rattle.split_types.proofs.journaling.seals_in_order.Goals as goal

pub returns : goal.returns
returns c = law.seals_in_order
