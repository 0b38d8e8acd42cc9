use Rattle.trace_text.proofs.TextLaws as law
use Rattle.trace_text.proofs.laws.reading_is_exact.Goals as goal

pub returns : goal.returns
returns c = law.reading_is_exact
