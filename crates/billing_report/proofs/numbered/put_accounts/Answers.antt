use Rattle.std.proofs.Common.{arith}
use Rattle.line_printer.proofs.Shared.{puts_numbered}
use Rattle.split_types.specs.ReportText.{account_words}
use Rattle.billing_report.proofs.numbered.put_accounts.Goals as goal

pub loop-i-preserved : goal.loop-i-preserved
loop-i-preserved g c = puts_numbered account_words c.args.accounts.now c.loop-i.i _ (omega arith) c.loop-i.invariant
    c.put_account.ensures
