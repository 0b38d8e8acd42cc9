use Rattle.std.proofs.Common.{take}
use Rattle.line_printer.specs.Puts.{Puts}
use Rattle.split_types.specs.Lines.{lines_of}
use Rattle.split_types.specs.WorkloadText.{fail_words}
use Rattle.workload_reader.proofs.writing.put_fails.Given as goal

-- the lines of the sends so far were added
abbrev pub invariant-loop-send : goal.invariant-loop-send
invariant-loop-send g l = Puts g.P.Printer.due l.fn.out l.out (lines_of fail_words (take l.send-index l.fails))
