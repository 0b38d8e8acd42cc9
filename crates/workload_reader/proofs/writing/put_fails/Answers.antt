use Rattle.std.proofs.Common.{arith}
use Rattle.line_printer.proofs.Shared.{puts_more}
use Rattle.split_types.specs.WorkloadText.{fail_words}
use Rattle.workload_reader.proofs.writing.put_fails.Goals as goal

pub loop-send-preserved : goal.loop-send-preserved
loop-send-preserved g c =
    puts_more fail_words c.args.fails.now c.loop-send.send-index 0
    (omega arith) c.loop-send.invariant c.put_fail.ensures
