-- One step back at a time.
use Rattle.std.proofs.Common.{◌≡◌, ℕ, ◌+◌, ◌-◌, arith, sym, ◌∙◌}
use Rattle.provenance.proofs.Walks.{open-closed, open-going, open-end}
use Rattle.provenance.proofs.walk.open_before.Goals as goal

pub loop-rest-preserved-then-is_closed : goal.loop-rest-preserved-then-is_closed
loop-rest-preserved-then-is_closed g c =
    let n : ℕ = c.loop-rest.rest - 1 in
    let is : c.loop-rest.rest ≡ n + 1 = omega arith in
    let kept = open-closed c.args.h.now.events c.at-e.result n c.loop-rest.rest _ _ _ is c.at-e.ensures.event
    c.in_ok-push_dirtied.ensures (sym c.is_closed.ensures ∙ c.if-is_closed.true) in
    (omega arith, (c.requires.within, kept ∙ c.loop-rest.invariant.1.1))

pub loop-rest-preserved : goal.loop-rest-preserved
loop-rest-preserved g c =
    let n : ℕ = c.loop-rest.rest - 1 in
    let is : c.loop-rest.rest ≡ n + 1 = omega arith in
    let kept = open-going c.args.h.now.events c.at-e.result n c.loop-rest.rest _ _ _ is c.at-e.ensures.event
    c.in_ok-push_dirtied.ensures (sym c.is_closed.ensures ∙ c.if-is_closed.false) in
    (omega (arith, c.loop-rest.invariant.0), (c.requires.within, kept ∙ c.loop-rest.invariant.1.1))

pub returns : goal.returns
returns g c = open-end c.args.h.now.events c.loop-rest.rest _ _ _ c.loop-rest-test.false c.loop-rest.invariant.1.1
