use Rattle.std.proofs.Common.{take}
use Rattle.line_printer.specs.Puts.{Puts}
use Rattle.split_types.specs.Lines.{lines_of}
use Rattle.workload_reader.proofs.writing.put_lines.Given as goal

-- the lines of the items so far were added
abbrev pub invariant-loop-item : goal.invariant-loop-item
invariant-loop-item g l = Puts g.P.Printer.due l.fn.out l.out (lines_of g.X.OnLine.words (take l.item-index l.items))
