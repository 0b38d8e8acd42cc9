use Rattle.std.proofs.Common.{arith}
use Rattle.line_printer.proofs.Shared.{puts_item}
use Rattle.workload_reader.proofs.writing.put_lines.Goals as goal

pub loop-item-preserved : goal.loop-item-preserved
loop-item-preserved g c =
    puts_item g.X.OnLine.words c.args.items.now c.loop-item.item-index c.item-item.result
    (omega arith) c.item-item.is c.loop-item.invariant c.put_line.ensures
