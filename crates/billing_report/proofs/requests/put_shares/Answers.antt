use Rattle.std.proofs.Common.{arith}
use Rattle.line_printer.proofs.Shared.{puts_field}
use Rattle.split_types.specs.ReportText.{share_word}
use Rattle.billing_report.proofs.requests.put_shares.Goals as goal

pub loop-share-preserved : goal.loop-share-preserved
loop-share-preserved g c = puts_field share_word c.args.shares.now c.loop-share.share-index _ (omega arith)
    c.loop-share.invariant c.put_share.ensures
