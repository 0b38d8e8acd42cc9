use Rattle.token_ledger.proofs.PlaceLaws.{none_of, pair_closed, places_closed}
use Rattle.token_ledger.proofs.pairs.OpenPairs.close.Goals as goal

pub returns-in_err-at-clause-none : goal.returns-in_err-at-clause-none
returns-in_err-at-clause-none c =
    let i = c.self.inside in
    rw (c.from_residual.ensures, ← c.self.view_is)
    (none_of i.places i.owed.items c.args.buf c.args.mark c.in_err-at.ensures.none)

pub invariant_of-self-2 : goal.invariant_of-self-2
invariant_of-self-2 c =
    let i = c.self.inside in
    rw (c.put.ensures, c.in_ok-at.ensures.rest)
    (places_closed i.places i.owed.items i.free c.in_ok-at.at c.args.buf c.args.mark c.self.invariant
    c.in_ok-at.ensures.place)

pub returns-clause-rest : goal.returns-clause-rest
returns-clause-rest c =
    let i = c.self.inside in
    rw (c.put.ensures, c.in_ok-at.ensures.rest, ← c.self.view_is)
    (pair_closed i.places i.owed.items c.in_ok-at.at c.args.buf c.args.mark c.index.result.now c.self.invariant.owed_len
    c.in_ok-at.ensures.place c.index.ensures)
