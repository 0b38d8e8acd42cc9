use Rattle.workload_reader.proofs.TextLaws as law
use Rattle.workload_reader.proofs.laws.texts_spell_one_workload.Goals as goal

pub returns : goal.returns
returns c = law.one_workload
