use Rattle.std.proofs.Common.{ℕ, ap, arith}
use Rattle.journal_core.specs.Journaled.{Journaled}
use Rattle.layer_runs.proofs.tests.transactions.begin.Goals as goal

pub returns-clause-uses : goal.returns-clause-uses
returns-clause-uses c = λ n. omega (arith, c.in_ok-journal.ensures.held n)

pub returns-clause-sealed : goal.returns-clause-sealed
returns-clause-sealed c = ap (λ (j : Journaled ℕ). j.work.sealed) c.in_ok-journal.ensures.empty
