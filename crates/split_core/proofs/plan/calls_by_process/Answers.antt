-- One call more.
use Rattle.std.proofs.Common.{arith, ◌≡◌, ◌-◌, List, [], ◌∷◌, ◌++◌, ap, ◌∙◌, length, refl, Some, slice_get}
use Rattle.std.proofs.Common.{slice_index_or}
use Rattle.std.proofs.lemmas.List.{length-set, get_or_read}
use Rattle.std.proofs.lemmas.Option.{slice_get_read}
use Rattle.split_types.specs.declared.call.Call.{Call}
use Rattle.split_types.proofs.Shared.{all_at}
use Rattle.split_types.specs.IsWorkload.{IsCall}
use Rattle.split_core.proofs.PlanNotes.{calls_more}
use Rattle.split_core.proofs.plan.calls_by_process.Goals as goal

pub loop-call-preserved : goal.loop-call-preserved
loop-call-preserved c =
    let calls = c.args.w.now.calls in
    let procs = length c.args.w.now.procs in
    let at : slice_get calls c.loop-call.call-index ≡ Some c.call-item.result =
    slice_get_read calls (length calls) c.loop-call.call-index c.call-item.result refl
    (omega (arith, c.loop-call-test.true, ap length c.as_slice-call-items.ensures)) (c.call-item.is
    ∙ ap (λ l. slice_index_or l c.loop-call.call-index c.call-item.result) c.as_slice-call-items.ensures) in
    let of : IsCall procs c.call-item.result =
    all_at (IsCall procs) calls c.loop-call.call-index c.call-item.result c.requires.workload.calls.each at in
    let read = get_or_read c.loop-call.calls.items (c.call-item.result.0.0 - 1) c.index_mut.result.now
    (omega (arith, of.by_least, of.by_most, c.loop-call.invariant.callers)) c.index_mut.ensures.value [] in
    record {
      callers = length-set c.loop-call.calls.items (c.call-item.result.0.0 - 1) c.push.new.self
          ∙ c.loop-call.invariant.callers;
      calls = calls_more calls c.loop-call.call-index c.call-item.result c.loop-call.calls.items c.push.new.self procs at
          of.by_least of.by_most c.loop-call.invariant.callers c.loop-call.invariant.calls
          (c.in_ok-push.ensures.ok ∙ ap (λ (l : List Call). l ++ c.call-item.result.1 ∷ []) read);
    }
