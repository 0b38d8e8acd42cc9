-- The pages before are taken.
use Rattle.std.proofs.Common.{◌≡◌, ◌-◌}
use Rattle.split_core.specs.Syncs.{pages_taken}
use Rattle.split_core.proofs.note.syncs.Unwritten.take.Given as goal

abbrev pub invariant-loop-k : goal.invariant-loop-k
invariant-loop-k l = l.self ≡ pages_taken l.page (l.k - l.page) l.initial.self
