use Rattle.std.proofs.Common.{ℕ, List, ap, arith}
use Rattle.journal_core.specs.Journaled.{Journaled}
use Rattle.layer_runs.proofs.tests.transactions.seal_for.Goals as goal

pub returns-clause-uses : goal.returns-clause-uses
returns-clause-uses g c = λ n.
    omega (arith, c.seal.ensures.moved.uses n, c.in_ok-mark_for-2.ensures.uses n)

pub returns-clause-sealed : goal.returns-clause-sealed
returns-clause-sealed g c =
    omega (
      arith,
      ap (λ (s : Journaled (List ℕ)). s.work.sealed) c.in_ok-sealed.ensures.sealed,
      c.in_ok-mark_for-2.ensures.sealed,
      c.in_ok-mark_for.ensures.sealed,
    )
