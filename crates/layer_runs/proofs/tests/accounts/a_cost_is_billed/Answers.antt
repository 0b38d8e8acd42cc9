use Rattle.std.proofs.Common.{◌^◌, ℕ, pos, ◌+ℤ◌, ◌<ℤ◌, [], ◌∷◌, ap, sym, subst, ◌∙◌, arith}
use Rattle.split_types.specs.Sets.{IsSet}
use Rattle.split_types.proofs.Shared.{one-is_set}
use Rattle.token_ledger.specs.Books.{Books, HasAccount, granted_of, grant_of}
use Rattle.layer_runs.proofs.Samples.{has_account, sample_room, sample_payers, sample_bill_fits}
use Rattle.layer_runs.proofs.tests.accounts.a_cost_is_billed.Goals as goal

pub advance-requires-clause-room : goal.advance-requires-clause-room
advance-requires-clause-room c d =
    subst (λ (b : Books). (a : ℕ) → HasAccount b a → (granted_of b a +ℤ grant_of b a 52) <ℤ pos (2 ^ 60))
    (sym d.in_ok-ledger.ensures)
    (sample_room d.in_ok-ledger.ledger.spare)

pub bill-requires-clause-payers : goal.bill-requires-clause-payers
bill-requires-clause-payers c d =
    rw d.one.ensures
    (λ p is. sample_payers d.advance.new.self p
    (ap (λ (b : Books). b.owners) d.advance.ensures.rest ∙ ap (λ (b : Books). b.owners) d.in_ok-ledger.ensures) is)

pub bill-requires-clause-room : goal.bill-requires-clause-room
bill-requires-clause-room c d =
    let one : IsSet (1 ∷ []) = one-is_set 1 (omega arith) (omega arith) in
    rw d.one.ensures
    (λ a has. sample_bill_fits d.advance.new.self a d.bills_within_costs.ensures one
    (ap (λ (b : Books). b.accounts) d.advance.ensures.rest ∙ ap (λ (b : Books). b.accounts) d.in_ok-ledger.ensures)
    (ap (λ (b : Books). b.billed) d.advance.ensures.rest ∙ ap (λ (b : Books). b.billed) d.in_ok-ledger.ensures) has)

pub fact-shown-requires : goal.fact-shown-requires
fact-shown-requires c d =
    has_account d.bill.new.self
    (ap (λ (b : Books). b.accounts) d.bill.ensures.rest ∙ ap (λ (b : Books). b.accounts) d.advance.ensures.rest
    ∙ ap (λ (b : Books). b.accounts) d.in_ok-ledger.ensures)
