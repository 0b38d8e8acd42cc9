use Rattle.std.proofs.Common.{◌≡◌, map}
use Rattle.token_ledger.specs.Standings.{opened}
use Rattle.token_ledger.proofs.StandingLaws.{kept_opening, books_opening}
use Rattle.token_ledger.proofs.ledger.Ledger.new.Goals as goal

pub invariant_of-result : goal.invariant_of-result
invariant_of-result c =
    let standings : c.in_ok-standings.standings.items ≡ map opened c.args.w.now.accounts =
    rw c.as_slice-accounts.ensures at c.in_ok-standings.ensures in
    let owners : c.in_ok-owners.owners.items ≡ map (λ p. p.account) c.args.w.now.procs =
    rw c.as_slice-procs.ensures at c.in_ok-owners.ensures in
    kept_opening c.args.w.now c.in_ok-standings.standings.items c.in_ok-owners.owners.items c.in_ok-pairs.pairs.pairs
    c.requires standings owners c.in_ok-pairs.ensures

pub returns : goal.returns
returns c =
    let standings : c.in_ok-standings.standings.items ≡ map opened c.args.w.now.accounts =
    rw c.as_slice-accounts.ensures at c.in_ok-standings.ensures in
    let owners : c.in_ok-owners.owners.items ≡ map (λ p. p.account) c.args.w.now.procs =
    rw c.as_slice-procs.ensures at c.in_ok-owners.ensures in
    books_opening c.args.w.now c.in_ok-standings.standings.items c.in_ok-owners.owners.items c.in_ok-pairs.pairs
    standings owners c.in_ok-pairs.ensures
