use Rattle.split_types.proofs.PromiseOrder as law
use Rattle.split_types.proofs.journaling.journal_in_order.Goals as goal

pub returns : goal.returns
returns c = law.journal_in_order
