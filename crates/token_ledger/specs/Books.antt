-- What contracts see of a ledger.
use Rattle.std.specs.Prelude.{◌≡◌, ℕ, ℤ, pos, ◌+◌, ◌-◌, ◌*◌, ◌^◌, ◌<◌, ◌<ℤ◌, ◌-ℤ◌, ◌+ℤ◌, ◌≤◌, ◌==◌, Bool, true, false, ◌&&◌, List, [], ◌∷◌, ◌++◌, length, map, replicate, sum_by, slice_index, slice_index_or, All, Option, Some, None, if◌then◌else◌}
use Rattle.std.specs.Int.{int_max, int_min}
use Rattle.split_types.specs.declared.ids.ReqId.{ReqId}
use Rattle.split_types.specs.declared.buf.Buf.{Buf}
use Rattle.split_types.specs.declared.workload.Account.{Account}
use Rattle.split_types.specs.declared.workload.Workload.{Workload}
use Rattle.split_types.specs.declared.facts.AccountFact.{AccountFact}
use Rattle.split_types.specs.Hooks.{same_buf}
use Rattle.split_types.specs.Sets.{pids}
use Rattle.split_types.specs.Share.{bill_of_parts}
use Rattle.cause_set.specs.Shares.{IsPart}
use Rattle.token_ledger.specs.declared.pair.Pair.{Pair}

-- the accounts; the account of each process; what each account was granted and billed; the open pairs, in any order;
-- and for how many more pairs there is room. Accounts and processes are numbered from 1
pub record Books : Type 0 where
  pub accounts : List Account
  pub owners : List ℕ
  pub granted : List ℤ
  pub billed : List ℕ
  pub pairs : List Pair
  pub spare : ℕ

-- the books at the start: each account is granted its start amount, and there are no bills and no pairs
abbrev pub opening : Workload → ℕ → Books
opening w spare =
    record {
      accounts = w.accounts;
      owners = map (λ p. p.account) w.procs;
      granted = map (λ a. a.start) w.accounts;
      billed = replicate (length w.accounts) 0;
      pairs = [];
      spare = spare;
    }

-- a is an account
pub record HasAccount (books : Books) (a : ℕ) : Type 0 where
  pub from : 1 ≤ a
  pub to : a ≤ length books.accounts

-- p is a process
pub record HasProcess (books : Books) (p : ℕ) : Type 0 where
  pub from : 1 ≤ p
  pub to : p ≤ length books.owners

-- the account of a process; no account where it is no process
abbrev pub owner_in : List ℕ → ℕ → ℕ
owner_in owners p = slice_index owners (p - 1)

-- what is an account's of an amount that a process has: all of it or nothing
abbrev pub of_account : List ℕ → ℕ → ℕ → ℕ → ℕ
of_account owners a p amount = if owner_in owners p == a then amount else 0

-- what an account was granted
abbrev pub granted_of : Books → ℕ → ℤ
granted_of books a = slice_index_or books.granted (a - 1) (pos 0)

-- what it was billed
abbrev pub billed_of : Books → ℕ → ℕ
billed_of books a = slice_index books.billed (a - 1)

-- what is held back from it: the estimates of the open pairs of its processes
abbrev pub pending_in : List ℕ → List Pair → ℕ → ℕ
pending_in owners pairs a = sum_by (λ q. of_account owners a q.by.0 q.estimate) pairs

abbrev pub pending_of : Books → ℕ → ℕ
pending_of books a = pending_in books.owners books.pairs a

-- its balance
abbrev pub balance_of : Books → ℕ → ℤ
balance_of books a = (granted_of books a -ℤ pos (billed_of books a)) -ℤ pos (pending_of books a)

-- all these
abbrev pub fact_of : Books → ℕ → AccountFact
fact_of books a =
    record {
      granted = granted_of books a;
      billed = pos (billed_of books a);
      pending = pos (pending_of books a);
      balance = balance_of books a;
    }

-- what is granted to an account of some balance as the clock advances by d: its rate for each unit, but no more than
-- what its balance lacks of its cap
abbrev pub grant : ℕ → ℕ → ℤ → ℕ → ℤ
grant rate cap balance d = int_min (pos (rate * d)) (int_max (pos cap -ℤ balance) (pos 0))

abbrev pub rate_of : Books → ℕ → ℕ
rate_of books a = slice_index (map (λ account. account.rate) books.accounts) (a - 1)

abbrev pub cap_of : Books → ℕ → ℕ
cap_of books a = slice_index (map (λ account. account.cap) books.accounts) (a - 1)

abbrev pub grant_of : Books → ℕ → ℕ → ℤ
grant_of books a d = grant (rate_of books a) (cap_of books a) (balance_of books a) d

-- what an account bears of a cost that is split over some sets: what each of its processes does
abbrev pub bill_of : List ℕ → ℕ → List (List ℕ) → ℕ → ℕ
bill_of owners cost parts a = sum_by (λ p. of_account owners a p (bill_of_parts cost parts p)) pids

-- what each account was granted stays below 2^60 where the clock advances by d
abbrev pub GrantsFit : Books → ℕ → Type 0
GrantsFit books d = (a : ℕ) → HasAccount books a → (granted_of books a +ℤ grant_of books a d) <ℤ pos (2 ^ 60)

-- what each account was billed stays below 2^60 with its part of a cost
abbrev pub BillsFit : Books → ℕ → List (List ℕ) → Type 0
BillsFit books cost parts =
    (a : ℕ) → HasAccount books a → billed_of books a + bill_of books.owners cost parts a < 2 ^ 60

-- where there is a part and no part is empty, no account bears more than the cost
abbrev pub BillsWithinCosts : Type 0
BillsWithinCosts =
    (owners : List ℕ) (cost : ℕ) (parts : List (List ℕ)) (a : ℕ) → 1 ≤ length parts → All IsPart parts
    → bill_of owners cost parts a ≤ cost

-- the clock advances by d: each account gets its grant, and nothing else changes
pub record Advances (old new : Books) (d : ℕ) : Type 0 where
  pub granted : (a : ℕ) → HasAccount old a → granted_of new a ≡ granted_of old a +ℤ grant_of old a d
  pub rest : new ≡ record old { granted = new.granted }

-- a cost is billed: each account bears its part, and nothing else changes
pub record Bills (old new : Books) (cost : ℕ) (parts : List (List ℕ)) : Type 0 where
  pub billed : (a : ℕ) → HasAccount old a → billed_of new a ≡ billed_of old a + bill_of old.owners cost parts a
  pub rest : new ≡ record old { billed = new.billed }

-- a list has one item more, wherever it stands
pub record IsOneMore {X : Type 0} (old new : List X) (x : X) : Type 0 where
  pub before : List X
  pub after : List X
  pub was : old ≡ before ++ after
  pub is : new ≡ before ++ x ∷ after

-- the two are one mark, or both are none
abbrev pub same_mark : Option ReqId → Option ReqId → Bool
same_mark None None = true
same_mark (Some i) (Some j) = i.0 == j.0
same_mark _ _ = false

-- the pair is one of this buffer with this mark
abbrev pub is_of : Buf → Option ReqId → Pair → Bool
is_of b mark q = same_buf q.buf b && same_mark q.mark mark

-- what becomes of a pair when a buffer is taken under a number: if it is one of the buffer's without a mark, it gets it
abbrev pub marked : Buf → ReqId → Pair → Pair
marked b id q = if is_of b None q then record q { mark = Some id } else q
