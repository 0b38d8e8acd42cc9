use Rattle.std.proofs.Common.{refl}
use Rattle.workload_reader.specs.declared.line.Line.TheVariants.{Cache}
use Rattle.workload_reader.proofs.heads.cache_line.Goals as goal

pub returns : goal.returns
returns c = λ w.
    let found = c.in_ok-value.ensures in
    (Cache found.0, (refl, tt), found.2, c.cache_of.ensures w _ found.3)
