use Rattle.split_types.proofs.PromiseJournal as law
use Rattle.split_types.proofs.journaling.commits_in_order.Goals as goal

pub returns : goal.returns
returns c = law.commits_in_order
