use Rattle.std.proofs.Common.{arith}
use Rattle.workload_reader.proofs.Sound.{spells, gone}
use Rattle.workload_reader.proofs.reading.read_workload.Goals as goal

pub returns-then-is_empty : goal.returns-then-is_empty
returns-then-is_empty c =
    let found = c.in_ok-workload.ensures in
    spells _ _ found.0 _ found.2 (gone _ c.if-is_empty.ensures) (omega (arith, c.if-text-gt16777216.false))
