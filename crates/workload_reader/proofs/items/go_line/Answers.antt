use Rattle.std.proofs.Common.{refl}
use Rattle.workload_reader.specs.declared.line.Line.TheVariants.{Go}
use Rattle.workload_reader.proofs.items.go_line.Goals as goal

pub returns : goal.returns
returns c = λ w is.
    let found = c.in_ok-value.ensures in
    (Go found.0, (refl, tt), found.2, c.go_of.ensures w _ _ is found.3)
