use Rattle.std.proofs.Common.{take}
use Rattle.split_types.specs.Lines.{lines_of}
use Rattle.split_types.specs.ReportText.{request_words}
use Rattle.line_printer.specs.Puts.{Puts}
use Rattle.billing_report.proofs.requests.put_requests.Given as goal

abbrev pub invariant-loop-req : goal.invariant-loop-req
invariant-loop-req g l = Puts g.P.Printer.due l.fn.out l.out (lines_of request_words (take l.req-index l.reqs))
