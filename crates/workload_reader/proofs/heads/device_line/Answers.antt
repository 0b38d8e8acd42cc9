use Rattle.std.proofs.Common.{refl}
use Rattle.workload_reader.specs.declared.line.Line.TheVariants.{Device}
use Rattle.workload_reader.proofs.heads.device_line.Goals as goal

pub returns : goal.returns
returns c = λ w is.
    let found = c.in_ok-value.ensures in
    (Device found.0, (refl, tt), found.2, c.device_of.ensures w _ _ (c.least_device.ensures w is) found.3)
