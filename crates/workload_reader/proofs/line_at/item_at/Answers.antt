use Rattle.std.proofs.Common.{arith}
use Rattle.workload_reader.proofs.HeadLaws.{at_head, may, go_head, call_head, file_head, proc_head, account_head}
use Rattle.workload_reader.proofs.HeadLaws.{fail_head, end_head}
use Rattle.workload_reader.proofs.line_at.item_at.Goals as goal

pub returns-in-Some : goal.returns-in-Some
returns-in-Some c =
    λ w accounts procs last. at_head go_head w _ _ _ _ c.in-Some.ensures
    (may c.args.stage 10 (omega arith) c.requires.first (omega arith) c.requires.open) (c.go_line.ensures w procs)

pub returns-then-stage-le9 : goal.returns-then-stage-le9
returns-then-stage-le9 c =
    λ w accounts procs last. at_head call_head w _ _ _ _ c.in-Some-after.ensures
    (may c.args.stage 8 (omega arith) c.requires.first (omega arith) c.requires.open) (c.call_line.ensures w procs)

pub returns-then-stage-le8 : goal.returns-then-stage-le8
returns-then-stage-le8 c =
    λ w accounts procs last. at_head file_head w _ _ _ _ c.in-Some-after-2.ensures
    (may c.args.stage 7 (omega arith) c.requires.first (omega arith) c.requires.open) (c.file_line.ensures w)

pub returns-then-stage-le7 : goal.returns-then-stage-le7
returns-then-stage-le7 c =
    λ w accounts procs last. at_head proc_head w _ _ _ _ c.in-Some-after-3.ensures
    (may c.args.stage 6 (omega arith) c.requires.first (omega arith) c.requires.open)
    (c.process_line.ensures w accounts)

pub returns-then-stage-le6 : goal.returns-then-stage-le6
returns-then-stage-le6 c =
    λ w accounts procs last. at_head account_head w _ _ _ _ c.in-Some-after-4.ensures
    (may c.args.stage 5 (omega arith) c.requires.first (omega arith) c.requires.open) (c.account_line.ensures w)

pub returns-then-stage-le10 : goal.returns-then-stage-le10
returns-then-stage-le10 c =
    λ w accounts procs last. at_head fail_head w _ _ _ _ c.in-Some-after-5.ensures
    (may c.args.stage 9 (omega arith) c.requires.first (omega arith) c.requires.open) (c.fail_line.ensures w last)

pub returns-in_ok-after : goal.returns-in_ok-after
returns-in_ok-after c =
    λ w accounts procs last. at_head end_head w _ _ _ _ c.in_ok-after.ensures
    (may c.args.stage 11 (omega arith) c.requires.first (omega arith) c.requires.open) (c.end_line.ensures w)
