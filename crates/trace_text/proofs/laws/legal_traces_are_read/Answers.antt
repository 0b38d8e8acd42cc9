use Rattle.trace_text.proofs.TextLaws as law
use Rattle.trace_text.proofs.laws.legal_traces_are_read.Goals as goal

pub returns : goal.returns
returns c = law.legal_traces_are_read
