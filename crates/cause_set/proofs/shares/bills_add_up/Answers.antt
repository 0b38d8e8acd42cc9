-- The law of bills.
use Rattle.cause_set.proofs.Parts.{bills_add_up}
use Rattle.cause_set.proofs.shares.bills_add_up.Goals as goal

pub returns : goal.returns
returns c = bills_add_up
