use Rattle.split_types.proofs.CostLaws as law
use Rattle.split_types.proofs.laws.sends_show_costs.Goals as goal

pub returns : goal.returns
returns c = law.sends_show_costs
