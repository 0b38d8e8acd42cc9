use Rattle.std.proofs.Common.{◌≡◌, ◌<◌, ℕ, List, ◌∷◌, length, get_or, subst, ap, sym, ◌∙◌, arith}
use Rattle.std.proofs.lemmas.List.{get_or_default}
use Rattle.split_types.specs.Share.{share, share_of}
use Rattle.token_ledger.specs.declared.standing.Standing.{Standing}
use Rattle.token_ledger.specs.Standings.{IsNumber}
use Rattle.token_ledger.proofs.StandingLaws.{nobody, owner_within, owner_some}
use Rattle.token_ledger.proofs.BillLaws.{IsBilling, billing_none, billing_payer, billing_below, billing_share, billing_fits, billing_more}
use Rattle.token_ledger.proofs.billing.bill_part.Goals as goal

pub loop-rank-init : goal.loop-rank-init
loop-rank-init c =
    billing_none c.args.standings.now c.args.owners.now c.args.cost c.args.part.now c.iter-p-items.result
    c.rises.ensures c.iter-p-items.ensures

pub place_of-at-requires-clause-process : goal.place_of-at-requires-clause-process
place_of-at-requires-clause-process c =
    let q : ℕ = c.in-Some.p.0 in
    let rest : List ℕ = c.next.new.self in
    let n : ℕ = c.loop-rank.rank in
    let billing : IsBilling c.args.standings.now c.loop-rank.standings c.args.owners.now c.args.cost c.args.part.now n
    (q ∷ rest) =
    subst (IsBilling c.args.standings.now c.loop-rank.standings c.args.owners.now c.args.cost c.args.part.now n)
    c.in-Some.ensures.steps c.loop-rank.invariant in
    c.requires.payers q (billing_payer c.args.standings.now c.loop-rank.standings c.args.owners.now c.args.cost
    c.args.part.now n q rest billing)

pub place_of-at-requires-clause-owned : goal.place_of-at-requires-clause-owned
place_of-at-requires-clause-owned c =
    let q : ℕ = c.in-Some.p.0 in
    let rest : List ℕ = c.next.new.self in
    let n : ℕ = c.loop-rank.rank in
    let billing : IsBilling c.args.standings.now c.loop-rank.standings c.args.owners.now c.args.cost c.args.part.now n
    (q ∷ rest) =
    subst (IsBilling c.args.standings.now c.loop-rank.standings c.args.owners.now c.args.cost c.args.part.now n)
    c.in-Some.ensures.steps c.loop-rank.invariant in
    let process : IsNumber (length c.args.owners.now) q =
    c.requires.payers q (billing_payer c.args.standings.now c.loop-rank.standings c.args.owners.now c.args.cost
    c.args.part.now n q rest billing) in
    owner_some (length c.args.standings.now) c.args.owners.now q c.requires.owners process

pub overflow_add-standings : goal.overflow_add-standings
overflow_add-standings c =
    let S = c.args.standings.now in
    let T = c.loop-rank.standings in
    let O = c.args.owners.now in
    let part = c.args.part.now in
    let q : ℕ = c.in-Some.p.0 in
    let rest : List ℕ = c.next.new.self in
    let n : ℕ = c.loop-rank.rank in
    let at = c.place_of-at.result in
    let billing : IsBilling S T O c.args.cost part n (q ∷ rest) =
    subst (IsBilling S T O c.args.cost part n) c.in-Some.ensures.steps c.loop-rank.invariant in
    let process : IsNumber (length O) q =
    c.requires.payers q (billing_payer S T O c.args.cost part n q rest billing) in
    let within : at < length S = owner_within S O q at c.requires.owners process c.place_of-at.ensures in
    let len = billing.billed.len in
    let s : Standing = get_or T at nobody in
    let read : s ≡ get_or T at s = get_or_default T at nobody s (omega arith) in
    let fits = billing_fits S T O c.args.cost part n q rest at s billing within read c.place_of-at.ensures
    c.requires.room in
    let below : n < length part = billing_below S T O c.args.cost part n q rest billing in
    let among : c.from.result ≡ length part = c.from.ensures ∙ c.len.ensures.value in
    let within_those : n < c.from.result = rw among below in
    let same : c.share.result ≡ share_of c.args.cost part q =
    c.share.ensures ∙ c.new-split.ensures n within_those ∙ ap (share c.args.cost n) among
    ∙ sym (billing_share S T O c.args.cost part n q rest billing) in
    omega (arith, fits, same)

pub overflow_step-rank : goal.overflow_step-rank
overflow_step-rank c =
    let part = c.args.part.now in
    let q : ℕ = c.in-Some.p.0 in
    let rest : List ℕ = c.next.new.self in
    let n : ℕ = c.loop-rank.rank in
    let billing : IsBilling c.args.standings.now c.loop-rank.standings c.args.owners.now c.args.cost part n (q ∷ rest) =
    subst (IsBilling c.args.standings.now c.loop-rank.standings c.args.owners.now c.args.cost part n)
    c.in-Some.ensures.steps c.loop-rank.invariant in
    let below : n < length part =
    billing_below c.args.standings.now c.loop-rank.standings c.args.owners.now c.args.cost part n q rest billing in
    let len = c.len.ensures.value in
    omega (arith, below, len)

pub loop-rank-preserved : goal.loop-rank-preserved
loop-rank-preserved c =
    let S = c.args.standings.now in
    let T = c.loop-rank.standings in
    let O = c.args.owners.now in
    let part = c.args.part.now in
    let q : ℕ = c.in-Some.p.0 in
    let rest : List ℕ = c.next.new.self in
    let n : ℕ = c.loop-rank.rank in
    let at = c.place_of-at.result in
    let billing : IsBilling S T O c.args.cost part n (q ∷ rest) =
    subst (IsBilling S T O c.args.cost part n) c.in-Some.ensures.steps c.loop-rank.invariant in
    let process : IsNumber (length O) q =
    c.requires.payers q (billing_payer S T O c.args.cost part n q rest billing) in
    let within : at < length S = owner_within S O q at c.requires.owners process c.place_of-at.ensures in
    let len = billing.billed.len in
    let s : Standing = get_or T at nobody in
    let read : s ≡ get_or T at s = get_or_default T at nobody s (omega arith) in
    let below : n < length part = billing_below S T O c.args.cost part n q rest billing in
    let among : c.from.result ≡ length part = c.from.ensures ∙ c.len.ensures.value in
    let within_those : n < c.from.result = rw among below in
    let same : c.share.result ≡ share_of c.args.cost part q =
    c.share.ensures ∙ c.new-split.ensures n within_those ∙ ap (share c.args.cost n) among
    ∙ sym (billing_share S T O c.args.cost part n q rest billing) in
    rw same (billing_more S T O c.args.cost part n q rest at s billing within read c.place_of-at.ensures)
