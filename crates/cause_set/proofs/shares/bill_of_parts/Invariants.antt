-- What is billed so far is the share in the first sets.
use Rattle.std.proofs.Common.{◌≡◌}
use Rattle.cause_set.proofs.Parts.{first_parts}
use Rattle.cause_set.proofs.shares.bill_of_parts.Given as goal

abbrev pub invariant-loop-at : goal.invariant-loop-at
invariant-loop-at l = l.bill ≡ first_parts l.cost l.parts l.p.0 l.at
