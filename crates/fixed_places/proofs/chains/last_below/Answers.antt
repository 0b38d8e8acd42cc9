use Rattle.std.proofs.Common.{Some, None, arith}
use Rattle.fixed_places.proofs.ChainLaws.{reached-more, reached-all, rises-within}
use Rattle.fixed_places.proofs.chains.last_below.Goals as goal

pub loop-next-preserved : goal.loop-next-preserved
loop-next-preserved c =
    let here = rw c.in-Some.is at c.loop-next.invariant.next in
    record {
      last = here;
      next = rises-within c.args.nexts.now c.requires.rises c.in-Some.place;
      reached = λ test chain.
          let so_far = rw c.in-Some.is at (c.loop-next.invariant.reached test chain) in
          reached-more test c.args.below c.in-Some.place c.loop-next.last c.args.first c.args.nexts.now chain so_far
          c.if-at-below.false;
    }

pub returns-then-at-below-clause-last : goal.returns-then-at-below-clause-last
returns-then-at-below-clause-last c = λ test chain.
    let so_far = rw c.in-Some.is at (c.loop-next.invariant.reached test chain) in
    reached-all test c.args.below c.loop-next.last (Some c.in-Some.place) so_far (λ i h. let past = c.if-at-below.true
    in omega arith)

pub returns-in_default-clause-last : goal.returns-in_default-clause-last
returns-in_default-clause-last c = λ test chain.
    let so_far = rw c.in_default.is at (c.loop-next.invariant.reached test chain) in
    reached-all test c.args.below c.loop-next.last None so_far (λ i h. absurd h)
