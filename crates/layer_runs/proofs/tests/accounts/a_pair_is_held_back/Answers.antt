use Rattle.std.proofs.Common.{ap, ◌∙◌, arith}
use Rattle.token_ledger.specs.Books.{Books, owner_in}
use Rattle.layer_runs.proofs.Samples.{has_account, has_process, sample_pending}
use Rattle.layer_runs.proofs.tests.accounts.a_pair_is_held_back.Goals as goal

pub open_pair-requires-clause-process : goal.open_pair-requires-clause-process
open_pair-requires-clause-process c d =
    has_process d.room.new.self (ap (λ (b : Books). b.owners) d.in_ok-room.ensures.rest
    ∙ ap (λ (b : Books). b.owners) d.in_ok-ledger.ensures)

pub open_pair-requires-clause-room : goal.open_pair-requires-clause-room
open_pair-requires-clause-room c d =
    sample_pending d.room.new.self (owner_in d.room.new.self.owners 1) 52
    (ap (λ (b : Books). b.pairs) d.in_ok-room.ensures.rest ∙ ap (λ (b : Books). b.pairs) d.in_ok-ledger.ensures)
    (omega arith)

pub balance-requires : goal.balance-requires
balance-requires c d =
    has_account d.open_pair.new.self
    (ap (λ (b : Books). b.accounts) d.in_ok-open_pair.ensures.rest
    ∙ ap (λ (b : Books). b.accounts) d.in_ok-room.ensures.rest
    ∙ ap (λ (b : Books). b.accounts) d.in_ok-ledger.ensures)
