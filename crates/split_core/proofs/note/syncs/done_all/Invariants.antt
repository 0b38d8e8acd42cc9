-- The fsyncs so far are changed.
use Rattle.std.proofs.Common.{◌≡◌, ◌++◌, map, take, drop}
use Rattle.split_core.specs.Syncs.{call_done}
use Rattle.split_core.proofs.note.syncs.done_all.Given as goal

abbrev pub invariant-loop-call : goal.invariant-loop-call
invariant-loop-call l = l.calls ≡ map (call_done l.serial l.page l.n)
    (take l.call-index l.fn.calls) ++ drop l.call-index l.fn.calls
