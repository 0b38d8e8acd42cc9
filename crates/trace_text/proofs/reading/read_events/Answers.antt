use Rattle.std.proofs.Common.{reverse, refl, sym, ap, arith}
use Rattle.split_types.specs.History.{adds}
use Rattle.trace_text.proofs.EventsLaws.{events_begin, events_more, adds_more, event_some, event_stops}
use Rattle.trace_text.proofs.reading.read_events.Goals as goal

pub loop-i-init : goal.loop-i-init
loop-i-init c = record {
  read = events_begin _ _ _ c.new-events.ensures;
  adds_are = ap (λ es. adds (reverse es)) (sym c.new-events.ensures);
  few = omega arith;
  room = omega arith;
}

pub loop-i-preserved : goal.loop-i-preserved
loop-i-preserved c =
    let found = c.in-Ok.ensures in
    let pushed = c.in_ok-push-in-Ok.ensures.ok in
    record {
      read = events_more c.push.new.self c.in-Ok.event _ c.loop-i.invariant.read pushed c.loop-i.invariant.adds_are
          found;
      adds_are = adds_more _ _ c.push.new.self c.in-Ok.event c.loop-i.invariant.adds_are pushed
          c.added-adds.ensures.adds;
      few = omega (arith, c.added-adds.ensures.few);
      room = omega (arith, event_some _ c.in-Ok.event _ found.1);
    }

pub returns-in-Err : goal.returns-in-Err
returns-in-Err c = rw c.refused.ensures (
  c.loop-i.i,
  refl,
  event_stops c.in-Err.cause c.loop-i.invariant.read (omega arith) c.loop-i.invariant.adds_are c.in-Err.ensures,
)
