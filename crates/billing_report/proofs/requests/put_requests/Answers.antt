use Rattle.std.proofs.Common.{arith}
use Rattle.line_printer.proofs.Shared.{puts_item}
use Rattle.split_types.specs.ReportText.{request_words}
use Rattle.billing_report.proofs.requests.put_requests.Goals as goal

pub loop-req-preserved : goal.loop-req-preserved
loop-req-preserved g c = puts_item request_words c.args.reqs.now c.loop-req.req-index c.req-item.result (omega arith)
    c.req-item.is c.loop-req.invariant c.put_request.ensures
