-- One number more.
use Rattle.std.proofs.Common.{arith}
use Rattle.split_types.specs.Lines.{numeral}
use Rattle.line_printer.proofs.Shared.{puts_field}
use Rattle.trace_text.proofs.event.put_numbers.Goals as goal

pub loop-n-preserved : goal.loop-n-preserved
loop-n-preserved g c = puts_field numeral c.args.numbers.now c.loop-n.n-index 0 (omega arith) c.loop-n.invariant
    c.put_number.ensures
