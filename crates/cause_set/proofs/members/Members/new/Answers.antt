-- All marks are those from the first process on.
use Rattle.std.proofs.Common.{refl}
use Rattle.split_types.specs.Sets.{pids}
use Rattle.cause_set.proofs.members.Members.new.Goals as goal

pub returns : goal.returns
unfolding pids
returns c = refl
