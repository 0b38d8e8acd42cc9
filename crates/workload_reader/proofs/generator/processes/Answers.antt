-- The loop makes seven, and one follows.
use Rattle.std.proofs.Common.{◌≡◌, ◌-◌, ◌∙◌, [], ◌∷◌, ◌++◌, replicate, ap, arith}
use Rattle.workload_reader.specs.Generated.{process}
use Rattle.workload_reader.proofs.generator.processes.Goals as goal

pub returns : goal.returns
returns c =
    let seven : c.loop-made._made - 1 ≡ 7 = omega arith in
    c.in_ok-push-2.ensures.ok
    ∙ ap (λ l. l ++ c.process-2.result ∷ []) (c.loop-made.invariant ∙ ap (λ k. replicate k (process 1)) seven)
    ∙ ap (λ p. replicate 7 (process 1) ++ p ∷ []) c.process-2.ensures
