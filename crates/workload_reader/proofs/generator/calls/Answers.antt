-- One call more.
use Rattle.std.proofs.Common.{◌∙◌, [], ◌∷◌, ◌++◌, ap, sym, arith}
use Rattle.workload_reader.specs.Generated.{calls}
use Rattle.workload_reader.proofs.GeneratedLaws.{starts, calls_none, calls_more}
use Rattle.workload_reader.proofs.generator.calls.Goals as goal

pub loop-made-init : goal.loop-made-init
loop-made-init c = record {
  made = starts c.args.n;
  calls_are = c.new-calls.ensures ∙ sym (calls_none c.args.n);
  few = omega arith;
}

pub loop-made-preserved : goal.loop-made-preserved
loop-made-preserved c =
    let n = c.args.n in
    let i = c.loop-made._made in
    let so_far = c.loop-made.invariant in
    record {
      made = c.next_call.ensures.made n i so_far.made;
      calls_are = c.in_ok-push.ensures.ok
          ∙ ap (λ l. l ++ c.next_call.result ∷ []) so_far.calls_are
          ∙ ap (λ call. calls n i ++ call ∷ []) (c.next_call.ensures.call n i so_far.made)
          ∙ sym (calls_more n i);
      few = omega (arith, c.next_call.ensures.few, so_far.few);
    }
