-- The shares so far, and those of the processes that are left, are all that are due.
use Rattle.std.proofs.Common.{◌≡◌, ◌++◌, map}
use Rattle.split_core.proofs.FactsReads.{share_in}
use Rattle.split_core.proofs.facts.shares_of.Given as goal

abbrev pub invariant-loop-p : goal.invariant-loop-p
invariant-loop-p l = l.shares.items ++ map (share_in l.cost l.tag) l.p-iterator ≡ map (share_in l.cost l.tag) l.tag
