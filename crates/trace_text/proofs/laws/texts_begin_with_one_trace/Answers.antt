use Rattle.trace_text.proofs.TextLaws as law
use Rattle.trace_text.proofs.laws.texts_begin_with_one_trace.Goals as goal

pub returns : goal.returns
returns c = law.one_trace
