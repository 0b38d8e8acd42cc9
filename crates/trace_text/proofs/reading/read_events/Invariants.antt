-- The events so far were read.
use Rattle.std.proofs.Common.{◌≡◌, ◌+◌, ◌≤◌, length, reverse}
use Rattle.split_types.specs.History.{adds}
use Rattle.trace_text.specs.Events.{EventsAt}
use Rattle.trace_text.proofs.reading.read_events.Given as goal

abbrev pub invariant-loop-i : goal.invariant-loop-i
invariant-loop-i l = record {
  read : EventsAt l.text l.most l.i l.events l.rest;
  adds_are : l.adds ≡ adds (reverse l.events);
  few : l.adds ≤ l.i;
  room : l.i + length l.rest ≤ length l.text;
}
