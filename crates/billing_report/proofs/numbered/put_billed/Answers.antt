use Rattle.std.proofs.Common.{arith}
use Rattle.line_printer.proofs.Shared.{puts_numbered}
use Rattle.split_types.specs.ReportText.{billed_words}
use Rattle.billing_report.proofs.numbered.put_billed.Goals as goal

pub loop-i-preserved : goal.loop-i-preserved
loop-i-preserved g c = puts_numbered billed_words c.args.billed.now c.loop-i.i 0 (omega arith) c.loop-i.invariant
    c.put_billed_line.ensures
