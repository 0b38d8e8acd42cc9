-- The pages before are done.
use Rattle.std.proofs.Common.{◌≡◌, ◌-◌}
use Rattle.split_core.specs.Syncs.{pages_done}
use Rattle.split_core.proofs.note.syncs.Unwritten.done.Given as goal

abbrev pub invariant-loop-k : goal.invariant-loop-k
invariant-loop-k l = l.self ≡ pages_done l.page (l.k - l.page) l.initial.self
