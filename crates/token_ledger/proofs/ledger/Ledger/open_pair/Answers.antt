use Rattle.std.proofs.Common.{◌+◌, None, length}
use Rattle.token_ledger.specs.declared.pair.Pair.{Pair}
use Rattle.token_ledger.specs.Books.{HasProcess, IsOneMore}
use Rattle.token_ledger.specs.Standings.{books_of, IsNumber}
use Rattle.token_ledger.proofs.StandingLaws.{owner_within, kept_opened, books_held}
use Rattle.token_ledger.proofs.ledger.Ledger.open_pair.Goals as goal

pub invariant_of-self-2 : goal.invariant_of-self-2
invariant_of-self-2 c =
    let i = c.self.inside in
    let has : HasProcess (books_of i.standings.items i.owners.items i.pairs) c.args.p.0 =
    rw (← c.self.view_is) at c.requires.process in
    let process : IsNumber (length i.owners.items) c.args.p.0 = record { from = has.from; to = has.to } in
    let room = rw (← c.self.view_is) at c.requires.room in
    let q : Pair = record { buf = c.args.b; by = c.args.p; estimate = c.args.estimate; mark = None } in
    let more : IsOneMore i.pairs.pairs c.open.new.self.pairs q =
    rw c.in_ok-room.ensures.pairs at c.open.ensures.pairs in
    let owner = rw c.deref.ensures.value at c.place_of-at.ensures in
    kept_opened i.standings.items i.owners.items i.pairs.pairs c.open.new.self.pairs q c.place_of-at.result
    c.index_mut.result.now
    c.self.invariant more process owner c.index_mut.ensures.value room

pub returns-clause-rest : goal.returns-clause-rest
returns-clause-rest c =
    let i = c.self.inside in
    let has : HasProcess (books_of i.standings.items i.owners.items i.pairs) c.args.p.0 =
    rw (← c.self.view_is) at c.requires.process in
    let process : IsNumber (length i.owners.items) c.args.p.0 = record { from = has.from; to = has.to } in
    let owner = rw c.deref.ensures.value at c.place_of-at.ensures in
    let s = c.index_mut.result.now in
    let within = owner_within i.standings.items i.owners.items c.args.p.0 c.place_of-at.result c.self.invariant.owned
    process owner in
    rw (← c.self.view_is)
    (books_held i.standings.items i.owners.items c.open.new.self c.place_of-at.result s
    (s.pending + c.args.estimate) within c.index_mut.ensures.value)
