use Rattle.workload_reader.proofs.LineLaws.{no_version}
use Rattle.workload_reader.proofs.heads.version_line.Goals as goal

pub returns-in_err-value-2 : goal.returns-in_err-value-2
returns-in_err-value-2 c = λ w. rw c.from_residual-in_err-value-2.ensures (λ l rest at e.
    let found = c.in_ok-value.ensures in
    no_version l _ rest at e found.2 (rw c.in_err-value-2.was at found.3))
