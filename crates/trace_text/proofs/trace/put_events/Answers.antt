-- One event more.
use Rattle.std.proofs.Common.{◌≡◌, reverse, slice_get, Some, sym, ◌∙◌}
use Rattle.std.proofs.lemmas.Option.{get_or_from_slice_get, slice_get_within}
use Rattle.split_types.specs.EventText.{event_words}
use Rattle.split_types.proofs.Shared.{slice_get-reverse}
use Rattle.line_printer.proofs.Shared.{puts_item}
use Rattle.trace_text.proofs.trace.put_events.Goals as goal

pub loop-i-preserved : goal.loop-i-preserved
loop-i-preserved g c =
    let events = reverse c.args.h.now.events in
    let e = c.at.result in
    let i = c.loop-i.i in
    let there : slice_get events i ≡ Some e = slice_get-reverse c.args.h.now.events i ∙ c.at.ensures.event in
    record {
      end = c.loop-i.invariant.end;
      added = puts_item event_words events i e (slice_get_within events i e there)
          (sym (get_or_from_slice_get events i e e there)) c.loop-i.invariant.added c.put_event.ensures;
    }
