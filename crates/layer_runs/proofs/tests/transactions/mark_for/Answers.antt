use Rattle.std.proofs.Common.{ℕ, List, ap, arith}
use Rattle.cause_set.proofs.TagLaws.{one_use-same}
use Rattle.journal_core.specs.Journaled.{Journaled}
use Rattle.layer_runs.proofs.tests.transactions.mark_for.Goals as goal

pub mark-requires-clause-uses : goal.mark-requires-clause-uses
mark-requires-clause-uses g c = λ n. omega (arith, c.requires.uses n, c.in_ok-by.ensures.moved.uses n)

pub mark-requires-clause-by : goal.mark-requires-clause-by
mark-requires-clause-by g c =
    let by = g.S.TagStore.number c.in_ok-by.by in
    omega (arith, c.in_ok-by.ensures.moved.uses by, one_use-same by)

pub release-requires : goal.release-requires
release-requires g c =
    let by = g.S.TagStore.number c.in_ok-by.by in
    omega (
      arith,
      c.mark.ensures.moved.uses by,
      c.requires.uses by,
      c.in_ok-by.ensures.moved.uses by,
      one_use-same by,
    )

pub returns-clause-uses : goal.returns-clause-uses
returns-clause-uses g c = λ n.
    omega (
      arith,
      c.release.ensures.moved.uses n,
      c.mark.ensures.moved.uses n,
      c.requires.uses n,
      c.in_ok-by.ensures.moved.uses n,
    )

pub returns-clause-sealed : goal.returns-clause-sealed
returns-clause-sealed g c = ap (λ (s : Journaled (List ℕ)). s.work.sealed) c.in_ok-mark.ensures.marked
