use Rattle.std.proofs.Common.{◌≡◌, ◌+◌, ◌<◌, ◌^◌, ℕ, List, length, sym, subst, arith}
use Rattle.std.proofs.lemmas.List.{with_items_is, length-map}
use Rattle.token_ledger.specs.declared.standing.Standing.{Standing}
use Rattle.token_ledger.specs.Books.{HasAccount, Bills, bill_of, billed_of}
use Rattle.token_ledger.specs.Standings.{books_of, AreKept, AreBilled}
use Rattle.token_ledger.proofs.BillLaws.{kept_billed, books_billed}
use Rattle.token_ledger.proofs.ledger.Ledger.bill.Goals as goal

pub invariant_of-self : goal.invariant_of-self
invariant_of-self c =
    let i = c.self.inside in
    let S : List Standing = i.standings.items in
    let O : List ℕ = i.owners.items in
    let T : List Standing = c.bill_parts.new.standings in
    let bill = bill_of O c.args.cost c.args.parts.now in
    let are : AreBilled S T bill = rw (c.deref_mut.ensures.value, c.deref.ensures.value) at c.bill_parts.ensures in
    let len : length T ≡ i.standings.len = omega (arith, are.len, i.standings.ok.0) in
    let room : (a : ℕ) → HasAccount (books_of S O i.pairs) a → billed_of (books_of S O i.pairs) a + bill a < 2 ^ 60 =
    rw (← c.self.view_is) at c.requires.room in
    subst (λ (R : List Standing). AreKept R O i.pairs.pairs) (sym (with_items_is i.standings T len))
    (kept_billed S T O i.pairs.pairs bill c.self.invariant are
    (λ a number. room a (record { from = number.from; to = rw (length-map S (λ s. s.account)) number.to })))

pub returns : goal.returns
returns c =
    let i = c.self.inside in
    let S : List Standing = i.standings.items in
    let O : List ℕ = i.owners.items in
    let T : List Standing = c.bill_parts.new.standings in
    let are : AreBilled S T (bill_of O c.args.cost c.args.parts.now) =
    rw (c.deref_mut.ensures.value, c.deref.ensures.value) at c.bill_parts.ensures in
    let len : length T ≡ i.standings.len = omega (arith, are.len, i.standings.ok.0) in
    rw (← c.self.view_is)
    (subst (λ (R : List Standing). Bills (books_of S O i.pairs) (books_of R O i.pairs) c.args.cost c.args.parts.now)
    (sym (with_items_is i.standings T len))
    (books_billed S T O i.pairs c.args.cost c.args.parts.now are))
