-- How the books lie in memory.
use Rattle.std.specs.Prelude.{◌≡◌, ℕ, ℤ, pos, negsuc, ◌+◌, ◌-◌, ◌^◌, ◌<◌, ◌≤◌, ◌-ℤ◌, ◌+ℤ◌, ◌≤ℤ◌, ◌<ℤ◌, List, length, map, slice_index, slice_index_or, sum_by, All}
use Rattle.split_types.specs.declared.workload.Account.{Account}
use Rattle.split_types.specs.declared.facts.AccountFact.{AccountFact}
use Rattle.split_types.specs.Sets.{pids}
use Rattle.split_types.specs.Share.{share_of}
use Rattle.token_ledger.specs.declared.pair.Pair.{Pair}
use Rattle.token_ledger.specs.declared.standing.Standing.{Standing}
use Rattle.token_ledger.specs.Books.{Books, pending_in, of_account, grant}
use Rattle.token_ledger.specs.Places.{OpenOnes}

abbrev pub books_of : List Standing → List ℕ → OpenOnes → Books
books_of standings owners ones =
    record {
      accounts = map (λ s. s.account) standings;
      owners = owners;
      granted = map (λ s. s.granted) standings;
      billed = map (λ s. s.billed) standings;
      pairs = ones.pairs;
      spare = ones.spare;
    }

-- all numbers of an account stay within bounds
pub record IsStanding (s : Standing) : Type 0 where
  pub rate : s.account.rate ≤ 1000000
  pub cap : s.account.cap ≤ 1000000000
  pub low : negsuc 999999999 ≤ℤ s.granted
  pub high : s.granted <ℤ pos (2 ^ 60)
  pub billed : s.billed < 2 ^ 60
  pub pending : s.pending < 2 ^ 60

-- an account at the start
abbrev pub opened : Account → Standing
opened account = record { account = account; granted = account.start; billed = 0; pending = 0 }

-- the balance of an account
abbrev pub standing_balance : Standing → ℤ
standing_balance s = (s.granted -ℤ pos s.billed) -ℤ pos s.pending

-- what a report says of an account
abbrev pub standing_fact : Standing → AccountFact
standing_fact s =
    record { granted = s.granted; billed = pos s.billed; pending = pos s.pending; balance = standing_balance s }

-- the account after an advance by d
abbrev pub advanced : ℕ → Standing → Standing
advanced d s = record s { granted = s.granted +ℤ grant s.account.rate s.account.cap (standing_balance s) d }

-- what each account was granted stays below 2^60 where the clock advances by d
abbrev pub AdvancesFit : List Standing → ℕ → Type 0
AdvancesFit standings d =
    (i : ℕ) (s : Standing) → i < length standings → (advanced d (slice_index_or standings i s)).granted <ℤ pos (2 ^ 60)

-- an account's number is one of so many
pub record IsNumber (accounts a : ℕ) : Type 0 where
  pub from : 1 ≤ a
  pub to : a ≤ accounts

-- what is held back from an account
abbrev pub pending_at : List Standing → ℕ → ℕ
pending_at standings a = slice_index (map (λ s. s.pending) standings) (a - 1)

-- what it was billed
abbrev pub billed_at : List Standing → ℕ → ℕ
billed_at standings a = slice_index (map (λ s. s.billed) standings) (a - 1)

-- all numbers are within bounds, each process has an account, each pair is a process's, and what is held back from an
-- account is what the pairs of its processes come to
pub record AreKept (standings : List Standing) (owners : List ℕ) (pairs : List Pair) : Type 0 where
  pub bounds : All IsStanding standings
  pub owned : All (IsNumber (length standings)) owners
  pub payers : All (λ q. IsNumber (length owners) q.by.0) pairs
  pub held : (a : ℕ) → IsNumber (length standings) a → pending_at standings a ≡ pending_in owners pairs a

-- what an account bears of a cost that is split over a set
abbrev pub bears : List ℕ → ℕ → List ℕ → ℕ → ℕ
bears owners cost set a = sum_by (λ p. of_account owners a p (share_of cost set p)) pids

-- what each account was billed stays below 2^60 with its bill
abbrev pub HaveRoom : List Standing → (ℕ → ℕ) → Type 0
HaveRoom standings bill = (a : ℕ) → IsNumber (length standings) a → billed_at standings a + bill a < 2 ^ 60

-- to what each account was billed its bill is added, and nothing else changes
pub record AreBilled (old new : List Standing) (bill : ℕ → ℕ) : Type 0 where
  pub len : length new ≡ length old
  pub each : (i : ℕ) (d : Standing) → i < length old
      → slice_index_or new i d ≡ record
      (slice_index_or old i d) { billed = (slice_index_or old i d).billed + bill (i + 1) }
