use Rattle.workload_reader.proofs.TextLaws as law
use Rattle.workload_reader.proofs.laws.reading_is_exact.Goals as goal

pub returns : goal.returns
returns c = law.reading_is_exact
