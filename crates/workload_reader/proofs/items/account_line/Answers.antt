use Rattle.std.proofs.Common.{refl}
use Rattle.workload_reader.specs.declared.line.Line.TheVariants.{Account}
use Rattle.workload_reader.proofs.items.account_line.Goals as goal

pub returns : goal.returns
returns c = λ w.
    let found = c.in_ok-value.ensures in
    (Account found.0, (refl, tt), found.2, c.account_of.ensures w _ found.3)
