use Rattle.token_ledger.proofs.BillLaws.{bill_within}
use Rattle.token_ledger.proofs.billing.bills_within_costs.Goals as goal

pub returns : goal.returns
returns c = λ owners cost parts a some are. bill_within owners cost parts a c.bills_add_up.ensures some are
