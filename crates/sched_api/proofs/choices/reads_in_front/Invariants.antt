-- The number that is looked for stays between the two.
use Rattle.std.proofs.Common.{◌-◌, ◌≤◌, length}
use Rattle.sched_api.proofs.FrontReads.{front_of}
use Rattle.sched_api.proofs.choices.reads_in_front.Given as goal

abbrev pub invariant-loop-front : goal.invariant-loop-front
invariant-loop-front l =
    (l.front ≤ front_of l.fn.requests) × (front_of l.fn.requests ≤ l.end) × (l.end ≤ length l.fn.reads)

abbrev pub decreases-loop-front : goal.decreases-loop-front
decreases-loop-front l = l.end - l.front
