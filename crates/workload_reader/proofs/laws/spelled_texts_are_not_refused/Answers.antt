use Rattle.workload_reader.proofs.TextLaws as law
use Rattle.workload_reader.proofs.laws.spelled_texts_are_not_refused.Goals as goal

pub returns : goal.returns
returns c = law.never_both
