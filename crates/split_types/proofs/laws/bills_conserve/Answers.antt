use Rattle.split_types.proofs.BillLaws as law
use Rattle.split_types.proofs.laws.bills_conserve.Goals as goal

pub returns : goal.returns
returns c = law.bills_conserve
