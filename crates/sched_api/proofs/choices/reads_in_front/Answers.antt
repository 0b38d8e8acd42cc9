-- What the two requests at a place say of how many reads stand in front.
use Rattle.std.proofs.Common.{◌≡◌, length, ap, ◌∙◌, arith}
use Rattle.std.specs.List.{slice_get}
use Rattle.sched_api.proofs.FrontReads.{front_of, front-found, front-reads, front-if_same, front-if_other, reads-few}
use Rattle.sched_api.proofs.choices.reads_in_front.Goals as goal

pub loop-front-init : goal.loop-front-init
loop-front-init c = (omega arith, rw c.requires.reads (front-reads c.args.requests.now), omega arith)

pub bounds-requests-middle : goal.bounds-requests-middle
bounds-requests-middle c =
    omega (
      arith,
      c.loop-front.invariant.1,
      c.loop-front.invariant.2,
      ap length c.requires.reads,
      reads-few c.args.requests.now,
      c.loop-front-test.true,
    )

pub loop-front-preserved-then-reads-middle : goal.loop-front-preserved-then-reads-middle
loop-front-preserved-then-reads-middle c =
    let less = front-if_same c.args.requests.now c.args.reads.now _ _ c.requires.by_id c.requires.reads
    (omega (arith, c.loop-front.invariant.2, c.loop-front-test.true)) c.if-reads-middle.true in
    (omega (arith, less), c.loop-front.invariant.1, c.loop-front.invariant.2)

pub loop-front-preserved : goal.loop-front-preserved
loop-front-preserved c =
    let past = front-if_other c.args.requests.now c.args.reads.now _ _ c.requires.by_id c.requires.reads
    c.if-reads-middle.false in (
      c.loop-front.invariant.0,
      past,
      omega (arith, c.loop-front.invariant.2, c.loop-front-test.true),
    )

pub returns : goal.returns
returns c = ap (slice_get c.args.requests.now) (let same : c.loop-front.front ≡ front_of c.args.requests.now =
    omega (arith, c.loop-front.invariant.0, c.loop-front.invariant.1, c.loop-front-test.false) in same)
    ∙ front-found c.args.requests.now
