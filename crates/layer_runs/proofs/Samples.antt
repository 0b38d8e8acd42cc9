-- What the tests owe: the sample's books have room for what happens in them.
use Rattle.std.proofs.Common.{◌≡◌, ℕ, pos, ◌+◌, ◌^◌, ◌<◌, ◌≤◌, ◌==◌, ◌+ℤ◌, ◌<ℤ◌, ◌||◌, Bool, true, false, [], ◌∷◌, refl, ap, subst, arith}
use Rattle.std.proofs.lemmas.Bool.Decides.{nat_tests}
use Rattle.std.proofs.lemmas.Int.{ints}
use Rattle.std.proofs.lemmas.List.Elements.{All-cons, All-nil}
use Rattle.split_types.specs.declared.workload.Account.{Account}
use Rattle.split_types.specs.Sets.{has, some_has, IsSet}
use Rattle.cause_set.specs.Shares.{IsPart}
use Rattle.token_ledger.specs.Books.{Books, BillsWithinCosts, HasAccount, HasProcess, pending_in, pending_of, granted_of, grant_of, billed_of, bill_of}

abbrev pub sample_account : Account
sample_account = record { rate = 10; cap = 1000; start = pos 990 }

abbrev pub sample_books : ℕ → Books
sample_books spare =
    record {
      accounts = sample_account ∷ [];
      owners = 1 ∷ [];
      granted = pos 990 ∷ [];
      billed = 0 ∷ [];
      pairs = [];
      spare = spare;
    }

pub has_account : (books : Books) → books.accounts ≡ sample_account ∷ [] → HasAccount books 1
has_account books is = record { from = omega arith; to = rw is (omega arith) }

pub has_process : (books : Books) → books.owners ≡ 1 ∷ [] → HasProcess books 1
has_process books is = record { from = omega arith; to = rw is (omega arith) }

-- nothing is held back where no pair is open
pub sample_pending : (books : Books) (a n : ℕ) → books.pairs ≡ [] → n < 2 ^ 60 → pending_of books a + n < 2 ^ 60
sample_pending books a n none few =
    let zero : pending_of books a ≡ 0 = ap (λ pairs. pending_in books.owners pairs a) none in
    omega (arith, zero, few)

one_is : (a : ℕ) → 1 ≤ a → a ≤ 1 → 1 ≡ a
one_is a from to = omega arith

-- the grant of an advance by 52 fits
pub sample_room : (spare a : ℕ) → HasAccount (sample_books spare) a
    → (granted_of (sample_books spare) a +ℤ grant_of (sample_books spare) a 52) <ℤ pos (2 ^ 60)
sample_room spare a has =
    subst (λ (a : ℕ). (granted_of (sample_books spare) a +ℤ grant_of (sample_books spare) a 52) <ℤ pos (2 ^ 60))
    (one_is a has.from has.to) (omega (arith, ints))

-- who pays is the process
pub sample_payers : (books : Books) (p : ℕ) → books.owners ≡ 1 ∷ [] → some_has ((1 ∷ []) ∷ []) p ≡ true
    → HasProcess books p
sample_payers books p owners is =
    subst (HasProcess books) (by_test (1 == p) refl is) (has_process books owners)
  where
    by_test : (t : Bool) → (1 == p) ≡ t → ((t || false) || false) ≡ true → 1 ≡ p
    by_test true same is = grind (arith, nat_tests)
    by_test false same is = absurd (cc)

pub sample_bill_fits : (books : Books) (a : ℕ) → BillsWithinCosts → IsSet (1 ∷ [])
    → books.accounts ≡ sample_account ∷ []
    → books.billed ≡ 0 ∷ [] → HasAccount books a
    → billed_of books a + bill_of books.owners 52 ((1 ∷ []) ∷ []) a < 2 ^ 60
sample_bill_fits books a law is accounts billed has =
    let to : a ≤ 1 = rw accounts at has.to in
    let one : 1 ≡ a = one_is a has.from to in
    let none : billed_of books a ≡ 0 = subst (λ (a : ℕ). billed_of books a ≡ 0) one (rw billed refl) in
    let within = law books.owners 52 ((1 ∷ []) ∷ []) a (omega arith)
    (All-cons IsPart (1 ∷ []) [] (record { is_set = is; some = omega arith }) (All-nil IsPart)) in
    omega (arith, none, within)
