use Rattle.std.proofs.Common.{arith}
use Rattle.layer_runs.proofs.tests.transactions.marked_for.Goals as goal

pub members-requires : goal.members-requires
members-requires g c =
    omega (arith, c.in-Some.ensures.held, c.requires.uses (g.S.TagStore.number c.in-Some.tag.now))
