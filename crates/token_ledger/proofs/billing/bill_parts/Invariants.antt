-- What is billed so far is what the accounts bear of the first parts.
use Rattle.token_ledger.specs.Standings.{AreBilled}
use Rattle.token_ledger.proofs.BillLaws.{first_bears}
use Rattle.token_ledger.proofs.billing.bill_parts.Given as goal

abbrev pub invariant-loop-at : goal.invariant-loop-at
invariant-loop-at l = AreBilled l.fn.standings l.standings (first_bears l.owners l.cost l.parts l.at)
