use Rattle.std.proofs.Common.{refl}
use Rattle.split_types.specs.declared.call.Call.TheVariants.{Write}
use Rattle.workload_reader.proofs.Alike.{after_field}
use Rattle.workload_reader.proofs.CallLaws.{after_write}
use Rattle.workload_reader.proofs.calls.write.Goals as goal

pub returns-in_err-fill : goal.returns-in_err-fill
returns-in_err-fill c =
    rw c.from_residual.ensures
    (λ call rest is e. let at = after_write c.in-Some.ensures.3 call rest is e in c.in_err-fill.ensures at.0 _ at.1)

pub returns-in_err-rest : goal.returns-in_err-rest
returns-in_err-rest c = rw c.from_residual-in_err-rest.ensures (λ call rest is e.
    let at = after_write c.in-Some.ensures.3 call rest is e in
    c.in_err-rest.ensures rest (after_field at.0 _ c.in_ok-fill.ensures.1 at.1.text_is refl))

pub returns : goal.returns
returns c =
    let found = c.in-Some.ensures in
    let fill = c.in_ok-fill.ensures in (
      Write found.0 found.1 found.2 fill.0,
      found.3.named,
      rw (fill.1.text_is, c.in_ok-rest.ensures) at found.3.text_is,
      c.write_of.ensures _ _ _ _ found.4 fill.2,
    )
