-- Those listed and those that are left are the set.
use Rattle.std.proofs.Common.{◌≡◌, ◌++◌, map}
use Rattle.cause_set.specs.Members.{pid_of}
use Rattle.cause_set.proofs.causes.Causes.to_list.Given as goal

abbrev pub invariant-loop-p : goal.invariant-loop-p
invariant-loop-p l = l.members ++ map pid_of l.p-iterator ≡ map pid_of l.fn.self
