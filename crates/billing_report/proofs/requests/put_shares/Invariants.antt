use Rattle.std.proofs.Common.{take, map}
use Rattle.split_types.specs.Lines.{fields}
use Rattle.split_types.specs.ReportText.{share_word}
use Rattle.line_printer.specs.Puts.{Puts}
use Rattle.billing_report.proofs.requests.put_shares.Given as goal

abbrev pub invariant-loop-share : goal.invariant-loop-share
invariant-loop-share g l = Puts g.P.Printer.due l.fn.out l.out (fields (map share_word (take l.share-index l.shares)))
