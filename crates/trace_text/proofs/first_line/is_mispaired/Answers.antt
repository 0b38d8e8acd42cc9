use Rattle.std.proofs.Common.{ap, not, ◌==◌}
use Rattle.trace_text.proofs.FirstLaws.{mispairs, no_mispairs}
use Rattle.trace_text.proofs.first_line.is_mispaired.Goals as goal

pub returns-in-Some : goal.returns-in-Some
returns-in-Some c = mispairs c.args.version c.in-Some.other _ c.in-Some.ensures
    (ap (λ v. not (v == c.args.version)) c.trace_version.ensures)

pub returns-in-None : goal.returns-in-None
returns-in-None c = no_mispairs c.args.version c.in-None.ensures
