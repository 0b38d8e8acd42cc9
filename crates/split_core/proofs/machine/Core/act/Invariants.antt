use Rattle.std.proofs.Common.{replicate}
use Rattle.split_core.proofs.TurnNotes.{Plays}
use Rattle.split_core.proofs.machine.Core.act.Given as goal

abbrev pub invariant-loop-turn : goal.invariant-loop-turn
invariant-loop-turn g l = Plays l.fn.self l.self (replicate l._turn l.actor)
