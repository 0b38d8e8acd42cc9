use Rattle.trace_text.proofs.TextLaws as law
use Rattle.trace_text.proofs.laws.printed_traces_are_read.Goals as goal

pub returns : goal.returns
returns c = law.printed_traces_are_read
