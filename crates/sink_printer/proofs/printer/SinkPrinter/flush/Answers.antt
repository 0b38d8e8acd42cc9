-- What was kept was handed over.
use Rattle.std.proofs.Common.{sym, subst}
use Rattle.sink_printer.specs.Due.{Told, Due, Hands}
use Rattle.sink_printer.proofs.Handing.{hands_due, kept_due}
use Rattle.sink_printer.proofs.printer.SinkPrinter.flush.Goals as goal

pub returns-clause-puts : goal.returns-clause-puts
returns-clause-puts g c =
    let out = c.args.self.now in
    let told : Told g.row.K.Denot = record { held = g.K.Sink.held; faults = g.K.Sink.faults; room = g.K.Sink.room } in
    let kept = out.page.now in
    let handed : Hands told out.sink.now out.failed c.hand-self.new.sink c.hand-self.result kept =
    subst (λ bytes. Hands told out.sink.now out.failed c.hand-self.new.sink c.hand-self.result bytes) c.as_slice.ensures
    c.hand-self.ensures in
    record {
      printed = λ start whole rest d. (
        d.0,
        subst (λ now_kept. Due told start.sink.now whole c.hand-self.new.sink now_kept c.hand-self.result rest)
            (sym c.clear.ensures)
            (hands_due whole kept rest (kept_due whole kept rest d.1) handed),
      );
    }
