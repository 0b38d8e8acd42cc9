use Rattle.std.proofs.Common.{take, replicate}
use Rattle.std.specs.List.{flat_map}
use Rattle.split_core.proofs.TurnNotes.{Plays}
use Rattle.split_core.proofs.machine.Core.play.Given as goal

abbrev pub invariant-loop-i : goal.invariant-loop-i
invariant-loop-i g l = Plays l.fn.self l.self
    (flat_map (λ x. replicate x.times x.actor) (take l.i l.fn.self.workload.go))
