-- The numbers so far were added.
use Rattle.std.proofs.Common.{take}
use Rattle.line_printer.specs.Puts.{Puts}
use Rattle.split_types.specs.Lines.{fields}
use Rattle.split_types.specs.EventText.{numerals}
use Rattle.trace_text.proofs.event.put_numbers.Given as goal

abbrev pub invariant-loop-n : goal.invariant-loop-n
invariant-loop-n g l = Puts g.P.Printer.due l.fn.out l.out (fields (numerals (take l.n-index l.numbers)))
