-- Each turn leaves less to drain.
use Rattle.std.proofs.Common.{subst}
use Rattle.split_core.specs.Steps.{TurnsTo}
use Rattle.split_core.proofs.TurnNotes.{drains_start, drains_on}
use Rattle.split_core.proofs.machine.Core.drain.Goals as goal

pub turns-init : goal.turns-init
turns-init g c = drains_start c.args.self.now

pub turns-preserved : goal.turns-preserved
turns-preserved g c =
    drains_on c.args.self.now c.turns.self c.finish_turn.new.self c.in-Made._place c.turns.invariant
    (subst (TurnsTo c.turns.self c.finish_turn.new.self) c.in-Made.is c.in_ok-_place.ensures.ok)
