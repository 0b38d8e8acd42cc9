use Rattle.workload_reader.proofs.Amounts.{negative_amount, positive_amount}
use Rattle.workload_reader.proofs.number.amount.Goals as goal

pub returns-in-Some : goal.returns-in-Some
returns-in-Some c = negative_amount _ _ _ _ c.in-Some.ensures c.negative.ensures

pub returns-in-None : goal.returns-in-None
returns-in-None c = positive_amount _ _ _ c.in-None.ensures c.positive.ensures
