-- A step is one turn more, and idle turns change nothing.
use Rattle.std.proofs.Common.{subst, replicate, arith}
use Rattle.std.proofs.lemmas.List.{replicate_more}
use Rattle.split_core.specs.Steps.{StepsTo}
use Rattle.split_core.proofs.TurnNotes.{plays_all, Plays, plays_step, plays_idle}
use Rattle.split_core.proofs.machine.Core.act.Goals as goal

pub returns-in-Idle-clause-ok : goal.returns-in-Idle-clause-ok
returns-in-Idle-clause-ok g c =
    plays_all c.args.self.now c.step.new.self (replicate c.args.times c.args.actor)
    (plays_idle c.args.self.now c.loop-turn.self c.step.new.self c.args.actor c.loop-turn._turn c.args.times
    (omega (arith, c.loop-turn-test.true)) c.loop-turn.invariant
    (subst (StepsTo c.args.actor c.loop-turn.self c.step.new.self) c.in-Idle.is c.in_ok-step.ensures.ok))

pub loop-turn-preserved : goal.loop-turn-preserved
loop-turn-preserved g c =
    subst (Plays c.args.self.now c.step.new.self) (replicate_more c.loop-turn._turn c.args.actor)
    (plays_step c.args.self.now c.loop-turn.self c.step.new.self
    (replicate c.loop-turn._turn c.args.actor) c.args.actor c.in_ok-step.field-0 c.loop-turn.invariant
    c.in_ok-step.ensures.ok)
