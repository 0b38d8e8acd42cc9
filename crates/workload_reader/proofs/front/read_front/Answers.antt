use Rattle.std.proofs.Common.{arith}
use Rattle.workload_reader.proofs.FrontLaws.{goes, halts, arrives}
use Rattle.workload_reader.proofs.front.read_front.Goals as goal

pub loop-seen-preserved : goal.loop-seen-preserved
loop-seen-preserved c =
    goes _ _ c.loop-seen.seen c.take.new.self _ _ _ c.loop-seen.invariant (rw c.in-Ok.is at c.in_ok-more.ensures)

pub returns-in-Err : goal.returns-in-Err
returns-in-Err c =
    halts _ _ c.loop-seen.seen _ _ _ c.loop-seen.invariant c.loop-seen-test.true
    (rw c.in-Err.is at c.in_ok-more.ensures)

pub returns : goal.returns
returns c = arrives _ _ c.loop-seen.seen _ _ c.loop-seen.invariant (omega (arith, c.loop-seen-test.false))
