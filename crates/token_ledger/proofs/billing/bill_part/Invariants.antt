-- What is billed so far, and what those bear that are left, are all that the accounts bear.
use Rattle.token_ledger.proofs.BillLaws.{IsBilling}
use Rattle.token_ledger.proofs.billing.bill_part.Given as goal

abbrev pub invariant-loop-rank : goal.invariant-loop-rank
invariant-loop-rank l = IsBilling l.fn.standings l.standings l.owners l.cost l.part l.rank l.p-iterator
