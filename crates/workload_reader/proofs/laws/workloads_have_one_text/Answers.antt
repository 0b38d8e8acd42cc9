use Rattle.workload_reader.proofs.TextLaws as law
use Rattle.workload_reader.proofs.laws.workloads_have_one_text.Goals as goal

pub returns : goal.returns
returns c = law.one_text
