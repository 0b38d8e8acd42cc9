use Rattle.token_ledger.proofs.StandingLaws.{kept_marked}
use Rattle.token_ledger.proofs.ledger.Ledger.taken.Goals as goal

pub invariant_of-self : goal.invariant_of-self
invariant_of-self c =
    let i = c.self.inside in
    kept_marked i.standings.items i.owners.items i.pairs.pairs c.mark.new.self.pairs c.args.b c.args.id
    c.self.invariant c.mark.ensures.pairs
