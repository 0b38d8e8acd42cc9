use Rattle.std.proofs.Common.{refl}
use Rattle.workload_reader.specs.declared.line.Line.TheVariants.{Fail}
use Rattle.workload_reader.proofs.items.fail_line.Goals as goal

pub returns : goal.returns
returns c = λ w last.
    let found = c.in_ok-value.ensures in
    (Fail found.0, (refl, tt), found.2, c.fail_of.ensures w _ found.3 last)
