-- One more fsync is changed.
use Rattle.std.proofs.Common.{◌<◌, length, get_or, arith}
use Rattle.std.proofs.lemmas.List.{get_or_default}
use Rattle.std.proofs.lemmas.List.Edits.{map_over_more}
use Rattle.split_core.specs.declared.note.syncs.CallSync.{CallSync}
use Rattle.split_core.specs.Syncs.{call_done}
use Rattle.split_core.proofs.note.syncs.done_all.Goals as goal

pub loop-call-preserved : goal.loop-call-preserved
loop-call-preserved c =
    let T = c.loop-call.calls in
    let i = c.loop-call.call-index in
    let x : CallSync = get_or T i c.call-item.result in
    let within : i < length T = omega arith in
    rw c.done.ensures
    (map_over_more (call_done c.args.serial c.args.page c.args.n) c.args.calls.now T i x c.loop-call-test.true c.loop-call.invariant
    (get_or_default T i c.call-item.result x within))
