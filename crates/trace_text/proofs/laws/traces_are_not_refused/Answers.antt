use Rattle.trace_text.proofs.TextLaws as law
use Rattle.trace_text.proofs.laws.traces_are_not_refused.Goals as goal

pub returns : goal.returns
returns c = law.never_both
