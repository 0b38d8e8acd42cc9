use Rattle.std.proofs.Common.{refl}
use Rattle.workload_reader.specs.declared.line.Line.TheVariants.{File}
use Rattle.workload_reader.proofs.items.file_line.Goals as goal

pub returns-in-Some : goal.returns-in-Some
returns-in-Some c = λ w.
    let found = c.in-Some.ensures in
    (File found.0, (refl, found.1), found.2, c.file_of.ensures w _ found.3)
