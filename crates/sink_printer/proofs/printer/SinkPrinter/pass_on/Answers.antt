-- The bytes were handed over.
use Rattle.sink_printer.proofs.Handing.{hands_kept}
use Rattle.sink_printer.proofs.printer.SinkPrinter.pass_on.Goals as goal

pub returns : goal.returns
returns g c = record {
  printed = λ start whole rest d. (
    d.0,
    hands_kept whole c.args.self.now.page.now c.args.bytes.now rest c.requires d.1
        c.hand-self.ensures,
  );
}
