use Rattle.std.proofs.Common.{◌≡◌}
use Rattle.journal_core.specs.Causes.{Covered}
use Rattle.journal_core.specs.Journaled.{held_by}
use Rattle.layer_runs.proofs.tests.transactions.carry_all.Given as goal

abbrev pub invariant-loop-one : goal.invariant-loop-one
invariant-loop-one g l = record {
  uses : Covered (held_by l.journal) (g.S.TagStore.now l.tags);
  sealed : l.journal.work.sealed ≡ l.initial.journal.work.sealed;
}
