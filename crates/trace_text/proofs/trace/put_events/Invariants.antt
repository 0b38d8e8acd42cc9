-- The lines of the oldest events were added.
use Rattle.std.proofs.Common.{◌≡◌, take, length, reverse}
use Rattle.line_printer.specs.Puts.{Puts}
use Rattle.split_types.specs.Lines.{lines_of}
use Rattle.split_types.specs.EventText.{event_words}
use Rattle.trace_text.proofs.trace.put_events.Given as goal

abbrev pub invariant-loop-i : goal.invariant-loop-i
invariant-loop-i g l = record {
  end : l.i-end ≡ length l.fn.h.events;
  added : Puts g.P.Printer.due l.fn.out l.out (lines_of event_words (take l.i (reverse l.fn.h.events)));
}
