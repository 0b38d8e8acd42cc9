-- None was passed over that has its mark.
use Rattle.std.proofs.Common.{◌≡◌, ◌-◌, ◌≤◌}
use Rattle.cause_set.specs.Marks.{marked_from}
use Rattle.cause_set.proofs.members.word_from.Given as goal

abbrev pub invariant-loop-number : goal.invariant-loop-number
invariant-loop-number l = (1 ≤ l.number) × (marked_from l.fn.marks l.fn.from ≡ marked_from l.fn.marks l.number)

abbrev pub decreases-loop-number : goal.decreases-loop-number
decreases-loop-number l = 257 - l.number
