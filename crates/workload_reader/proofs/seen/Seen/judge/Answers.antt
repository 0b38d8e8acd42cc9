use Rattle.std.proofs.Common.{◌≡◌}
use Rattle.split_types.specs.declared.workload.Workload.{Workload}
use Rattle.workload_reader.specs.declared.line.Line.{Line}
use Rattle.workload_reader.proofs.StopLaws.{fails_stop, weighed_fails, weighed_is}
use Rattle.workload_reader.proofs.seen.Seen.judge.Goals as goal

pub returns-in-Some-Err-default : goal.returns-in-Some-Err-default
returns-in-Some-Err-default c =
    let found = c.in-Some-Err-default.ensures in
    let w : Workload = c.args.self.now.workload in
    let l : Line = found.0 in
    fails_stop w c.args.self.now.stage _ l _ found.1 found.2 found.3 _
    (weighed_fails w l _ (rw c.in-Some-Err-default.field-0-0-is at found.4))

pub returns-in-Some : goal.returns-in-Some
returns-in-Some c =
    let found = c.in-Some-Ok-default.ensures in
    let w : Workload = c.args.self.now.workload in
    let l : Line = found.0 in
    let is : c.in-Some-Ok-default.line ≡ l = weighed_is w l _ (rw c.in-Some-Ok-default.field-0-0-is at found.4) in
    fails_stop w c.args.self.now.stage _ l _ found.1 found.2 found.3 _ (rw is at c.in-Some.ensures)
