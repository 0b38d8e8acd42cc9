use Rattle.trace_text.proofs.TextLaws as law
use Rattle.trace_text.proofs.laws.texts_have_one_refusal.Goals as goal

pub returns : goal.returns
returns c = law.one_refusal
