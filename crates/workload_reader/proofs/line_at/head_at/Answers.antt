use Rattle.std.proofs.Common.{ap, ◌≡◌, arith}
use Rattle.workload_reader.specs.Line.{stands}
use Rattle.workload_reader.proofs.HeadLaws.{at_head, splitload_head, device_head, cache_head, depth_head, sched_head}
use Rattle.workload_reader.proofs.line_at.head_at.Goals as goal

pub returns-in_ok-after-in-0 : goal.returns-in_ok-after-in-0
returns-in_ok-after-in-0 c =
    λ w is. at_head splitload_head w _ _ _ _ c.in_ok-after-in-0.ensures (ap (λ s. stands s 0) c.in-0.is)
    (c.version_line.ensures w)

pub returns-in_ok-after-in-1 : goal.returns-in_ok-after-in-1
returns-in_ok-after-in-1 c =
    λ w is. at_head device_head w _ _ _ _ c.in_ok-after-in-1.ensures (ap (λ s. stands s 1) c.in-1.is)
    (c.device_line.ensures w is)

pub returns-in_ok-after-in-2 : goal.returns-in_ok-after-in-2
returns-in_ok-after-in-2 c =
    λ w is. at_head cache_head w _ _ _ _ c.in_ok-after-in-2.ensures (ap (λ s. stands s 2) c.in-2.is)
    (c.cache_line.ensures w)

pub returns-in_ok-after-in-3 : goal.returns-in_ok-after-in-3
returns-in_ok-after-in-3 c =
    λ w is. at_head depth_head w _ _ _ _ c.in_ok-after-in-3.ensures (ap (λ s. stands s 3) c.in-3.is)
    (c.depth_line.ensures w)

pub returns-in_ok-after-in_default : goal.returns-in_ok-after-in_default
returns-in_ok-after-in_default c = λ w is.
    let at : c.args.stage ≡ 4 = omega arith in
    at_head sched_head w _ _ _ _ c.in_ok-after-in_default.ensures (ap (λ s. stands s 4) at) (c.sched_line.ensures w)
