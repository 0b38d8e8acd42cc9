use Rattle.std.proofs.Common.{◌<◌, ◌≤◌, length, arith}
use Rattle.fixed_places.proofs.RecencyLaws.{ranks_are}
use Rattle.fixed_places.proofs.recency.put_ranks.Goals as goal

pub returns : goal.returns
returns c =
    let all : length c.args.touches.now ≤ c.loop-i.i = c.loop-i-test.false in
    ranks_are c.loop-i.ranks.items c.args.touches.now c.loop-i.invariant.len (λ k h.
    c.loop-i.invariant.done k (omega arith))
