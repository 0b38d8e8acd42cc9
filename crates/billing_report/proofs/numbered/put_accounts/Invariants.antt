use Rattle.std.proofs.Common.{take}
use Rattle.std.specs.List.{enumerate_from}
use Rattle.split_types.specs.Lines.{lines_of}
use Rattle.split_types.specs.ReportText.{account_words}
use Rattle.line_printer.specs.Puts.{Puts}
use Rattle.billing_report.proofs.numbered.put_accounts.Given as goal

abbrev pub invariant-loop-i : goal.invariant-loop-i
invariant-loop-i g l = Puts g.P.Printer.due l.fn.out l.out
    (lines_of account_words (enumerate_from 1 (take l.i l.accounts)))
