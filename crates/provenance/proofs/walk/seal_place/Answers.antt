-- One step back at a time.
use Rattle.std.proofs.Common.{◌≡◌, ℕ, ◌+◌, ◌-◌, arith, sym, ◌∙◌}
use Rattle.provenance.proofs.Walks.{seal-found, seal-passed, seal-end}
use Rattle.provenance.proofs.walk.seal_place.Goals as goal

pub returns-then-is_seal_of-clause-place : goal.returns-then-is_seal_of-clause-place
returns-then-is_seal_of-clause-place g c =
    let n : ℕ = c.loop-rest.rest - 1 in
    let is : c.loop-rest.rest ≡ n + 1 = omega arith in
    seal-found c.args.h.now.events c.at.result n c.loop-rest.rest c.args.t is c.at.ensures.event
    (sym c.is_seal_of.ensures ∙ c.if-is_seal_of.true)
    ∙ c.loop-rest.invariant.1.1

pub loop-rest-preserved : goal.loop-rest-preserved
loop-rest-preserved g c =
    let n : ℕ = c.loop-rest.rest - 1 in
    let is : c.loop-rest.rest ≡ n + 1 = omega arith in
    let other = sym c.is_seal_of.ensures ∙ c.if-is_seal_of.false in
    let passed = seal-passed c.args.h.now.events c.at.result n c.loop-rest.rest c.args.t is c.at.ensures.event other in
    (omega (arith, c.loop-rest.invariant.0), (c.requires, passed ∙ c.loop-rest.invariant.1.1))

pub returns-clause-place : goal.returns-clause-place
returns-clause-place g c = seal-end c.args.h.now.events c.loop-rest.rest c.args.t c.loop-rest-test.false
    ∙ c.loop-rest.invariant.1.1
