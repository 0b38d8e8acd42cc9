use Rattle.split_types.proofs.BillLaws as law
use Rattle.split_types.proofs.laws.parts_are_tags.Goals as goal

pub returns : goal.returns
returns c = law.parts_are_tags
