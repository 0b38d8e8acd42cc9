use Rattle.std.proofs.Common.{◌≡◌, ◌^◌, ℕ, pos, ◌+ℤ◌, ◌<ℤ◌, List, length, map, sym, subst, arith}
use Rattle.std.proofs.lemmas.List.{with_items_is, length-map}
use Rattle.token_ledger.specs.declared.standing.Standing.{Standing}
use Rattle.token_ledger.specs.Books.{Books, HasAccount, Advances, granted_of, grant_of}
use Rattle.token_ledger.specs.Standings.{books_of, AreKept, advanced}
use Rattle.token_ledger.proofs.StandingLaws.{advance_room, kept_advanced, books_advanced}
use Rattle.token_ledger.proofs.ledger.Ledger.advance.Goals as goal

pub advance_all-requires-clause-room : goal.advance_all-requires-clause-room
advance_all-requires-clause-room c =
    let i = c.self.inside in
    let b : Books = books_of i.standings.items i.owners.items i.pairs in
    let room : (a : ℕ) → HasAccount b a → (granted_of b a +ℤ grant_of b a c.args.d) <ℤ pos (2 ^ 60) =
    subst (λ (b : Books). (a : ℕ) → HasAccount b a → (granted_of b a +ℤ grant_of b a c.args.d) <ℤ pos (2 ^ 60))
    (sym c.self.view_is) c.requires.room in
    rw c.deref_mut.ensures.value
    (advance_room i.standings.items i.owners.items i.pairs c.args.d c.self.invariant room)

pub invariant_of-self : goal.invariant_of-self
invariant_of-self c =
    let i = c.self.inside in
    let S : List Standing = i.standings.items in
    let O : List ℕ = i.owners.items in
    let T : List Standing = c.advance_all.new.standings in
    let is : T ≡ map (advanced c.args.d) S = rw c.deref_mut.ensures.value at c.advance_all.ensures in
    let len : length T ≡ i.standings.len = rw is (omega (arith, length-map S (advanced c.args.d), i.standings.ok.0)) in
    let b : Books = books_of S O i.pairs in
    let room : (a : ℕ) → HasAccount b a → (granted_of b a +ℤ grant_of b a c.args.d) <ℤ pos (2 ^ 60) =
    subst (λ (b : Books). (a : ℕ) → HasAccount b a → (granted_of b a +ℤ grant_of b a c.args.d) <ℤ pos (2 ^ 60))
    (sym c.self.view_is) c.requires.room in
    subst (λ (R : List Standing). AreKept R O i.pairs.pairs) (sym (with_items_is i.standings T len))
    (kept_advanced S T O i.pairs.pairs c.args.d c.self.invariant is
    (advance_room S O i.pairs c.args.d c.self.invariant room))

pub returns : goal.returns
returns c =
    let i = c.self.inside in
    let S : List Standing = i.standings.items in
    let O : List ℕ = i.owners.items in
    let T : List Standing = c.advance_all.new.standings in
    let is : T ≡ map (advanced c.args.d) S = rw c.deref_mut.ensures.value at c.advance_all.ensures in
    let len : length T ≡ i.standings.len = rw is (omega (arith, length-map S (advanced c.args.d), i.standings.ok.0)) in
    rw (← c.self.view_is)
    (subst (λ (R : List Standing). Advances (books_of S O i.pairs) (books_of R O i.pairs) c.args.d)
    (sym (with_items_is i.standings T len))
    (books_advanced S T O i.pairs c.args.d c.self.invariant is))
