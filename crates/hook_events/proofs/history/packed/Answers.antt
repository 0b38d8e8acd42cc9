use Rattle.std.proofs.Common.{length}
use Rattle.hook_events.proofs.history.packed.Goals as goal

pub returns-in-Some-clause-placed : goal.returns-in-Some-clause-placed
returns-in-Some-clause-placed c = c.in-Some.ensures.placed (length c.args.whole.now.items)
