-- One step back at a time.
use Rattle.std.proofs.Common.{◌≡◌, ℕ, ◌+◌, ◌-◌, arith, sym, ◌∙◌}
use Rattle.provenance.proofs.Walks.{serve-found, serve-passed, serve-end}
use Rattle.provenance.proofs.walk.last_serve.Goals as goal

pub returns-then-is_serve-clause-place : goal.returns-then-is_serve-clause-place
returns-then-is_serve-clause-place g c =
    let n : ℕ = c.loop-rest.rest - 1 in
    let is : c.loop-rest.rest ≡ n + 1 = omega arith in
    serve-found c.args.h.now.events c.at.result n c.loop-rest.rest is c.at.ensures.event (sym c.is_serve.ensures
    ∙ c.if-is_serve.true) ∙ c.loop-rest.invariant.1.1

pub loop-rest-preserved : goal.loop-rest-preserved
loop-rest-preserved g c =
    let n : ℕ = c.loop-rest.rest - 1 in
    let is : c.loop-rest.rest ≡ n + 1 = omega arith in
    let passed = serve-passed c.args.h.now.events c.at.result n c.loop-rest.rest is c.at.ensures.event
    (sym c.is_serve.ensures ∙ c.if-is_serve.false) in
    (omega (arith, c.loop-rest.invariant.0), (c.requires, passed ∙ c.loop-rest.invariant.1.1))

pub returns-clause-place : goal.returns-clause-place
returns-clause-place g c = serve-end c.args.h.now.events c.loop-rest.rest c.loop-rest-test.false
    ∙ c.loop-rest.invariant.1.1
