use Rattle.std.proofs.Common.{refl}
use Rattle.workload_reader.specs.declared.line.Line.TheVariants.{Call}
use Rattle.workload_reader.proofs.LineLaws.{only_call}
use Rattle.workload_reader.proofs.items.call_line.Goals as goal

pub returns-in-Some : goal.returns-in-Some
returns-in-Some c = λ w is.
    let found = c.in-Some.ensures in
    (Call found.0.0 found.0.1, (refl, found.1), found.2, c.call_of.ensures w _ _ is found.3)

pub returns-in-None : goal.returns-in-None
returns-in-None c =
    λ w is l rest at e. let call = only_call l at in c.in-None.ensures call.0 rest call.2 (rw call.1 at e)
