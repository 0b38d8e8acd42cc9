use Rattle.workload_reader.proofs.TextLaws as law
use Rattle.workload_reader.proofs.laws.texts_have_one_refusal.Goals as goal

pub returns : goal.returns
returns c = law.one_refusal
