use Rattle.std.proofs.Common.{◌*◌, ◌-◌, ◌^◌}
use Rattle.delayed_alloc.specs.Marks.{AreMarked}
use Rattle.delayed_alloc.specs.Settling.{SettlesRun}
use Rattle.delayed_alloc.proofs.alloc.Alloc.settle.Given as goal

-- the blocks of the words before are settled, and what they still wait for is marked
abbrev pub invariant-loop-at : goal.invariant-loop-at
invariant-loop-at l = record {
  settled : SettlesRun l.t l.initial.self l.self 0 (64 * l.from);
  marked : AreMarked l.self.states l.marks.bits 0 (64 * l.from);
}

abbrev pub decreases-loop-at : goal.decreases-loop-at
decreases-loop-at l = 2 ^ 32 - l.from
