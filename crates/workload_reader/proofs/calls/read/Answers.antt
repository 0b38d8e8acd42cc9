use Rattle.split_types.specs.declared.call.Call.TheVariants.{Read}
use Rattle.workload_reader.proofs.CallLaws.{after_read}
use Rattle.workload_reader.proofs.calls.read.Goals as goal

pub returns-in_err-rest : goal.returns-in_err-rest
returns-in_err-rest c =
    rw c.from_residual.ensures
    (λ call rest is e. c.in_err-rest.ensures rest (after_read c.in-Some.ensures.3 call rest is e))

pub returns : goal.returns
returns c =
    let found = c.in-Some.ensures in (
      Read found.0 found.1 found.2,
      found.3.named,
      rw c.in_ok-rest.ensures at found.3.text_is,
      c.read_of.ensures _ _ _ found.4,
    )
