-- Where the transactions in the journal stand: their numbers in a row, their slots, and the blocks of its requests.
use Rattle.std.proofs.Common.{◌≡◌, ℕ, zero, suc, ◌+◌, ◌*◌, ◌==◌, ◌<◌, ◌≤◌, List, [], ◌∷◌, ◌++◌, length, slice_get, filter, find, nat_lt, Bool, true, false, not, cond, Some, None, refl, arith, subst, sym, inl, inr, ◌∙◌, ap, ◌⊎◌, if◌then◌else◌}
use Rattle.std.proofs.lemmas.Bool.{both_ways, cond-true, cond-false, ne_eqb, eq-eqb, eqb-true}
use Rattle.std.proofs.lemmas.List.Sums.{length-filter}
use Rattle.std.proofs.lemmas.Option.{same_Some}
use Rattle.split_types.proofs.KeptLists.{one_passes}
use Rattle.split_types.specs.declared.ids.Txn.{Txn}
use Rattle.split_types.specs.declared.request.ReqKind.{ReqKind}
use Rattle.split_types.specs.declared.request.ReqKind.TheVariants.{Read, Pages, Log, Commit, Home, Clear}
use Rattle.split_types.specs.declared.request.Request.{Request}
use Rattle.split_types.specs.declared.workload.Workload.{Workload}
use Rattle.split_types.specs.declared.event.Event.{Event}
use Rattle.split_types.specs.Rounds.{seals, last_txn, slot_of_txn}
use Rattle.split_types.specs.declared.buf.Buf.{Buf}
use Rattle.split_types.specs.declared.buf.Buf.TheVariants as buf
use Rattle.split_types.specs.Parents.{home_block, metadata_buffers}
use Rattle.split_types.specs.Requests.{unfinished}
use Rattle.split_types.specs.Workloads.{first_block}
use Rattle.split_types.specs.Transactions.{journal_slots, descriptor_at, commit_at, in_journal, oldest_in, brings_home, awaiting_at, awaits_home, next_home, is_of_commit, under_way, stage, Stage}
use Rattle.split_types.specs.Transactions.Stage.{Fresh, Sealed, Logging, Committing, Homing, Clearing}
use Rattle.split_types.specs.Proving.Came.{IsLogOf, IsCommitOf, IsHomeOf, IsClearOf, Journals, journal_request}
use Rattle.split_types.proofs.Lists.{slice_get-push, find_there, list_any_here, count_push, count_filter_less, filter_there}
use Rattle.split_types.specs.ByPlace.{IsMetadata}
use Rattle.split_types.proofs.Parents.{metadata_any}
use Rattle.split_types.specs.Proving.JournalKnown.{AreInARow, AreSlots, AtStage, AreHomes, AreOfKind, IsJournalRun, AreJournalRuns, JournalKnown}

-- ---- numbers in a row
pub row_push : (low : ℕ) (ts : List Txn) (high : ℕ) (t : Txn) → t.0 ≡ high + 1 → AreInARow low ts high
    → AreInARow low (ts ++ t ∷ []) (high + 1)
row_push low [] high t is row = (omega (arith, is, row), omega (arith, row))
row_push low (u ∷ ts) high t is row = (row.0, row_push (low + 1) ts high t is row.1)

pub row_length : (low : ℕ) (ts : List Txn) (high : ℕ) → AreInARow low ts high → low + length ts ≡ high
row_length low [] high row = omega (arith, row)
row_length low (u ∷ ts) high row = omega (arith, row_length (low + 1) ts high row.1)

pub row_place : (low : ℕ) (ts : List Txn) (high i : ℕ) (t : Txn) → AreInARow low ts high → slice_get ts i ≡ Some t
    → t.0 ≡ low + 1 + i
row_place low [] high i t row at = absurd (cc)
row_place low (u ∷ ts) high zero t row at = omega (arith, row.0, ap (λ x. x.0) (same_Some u t at))
row_place low (u ∷ ts) high (suc i) t row at = omega (arith, row_place (low + 1) ts high i t row.1 at)

pub row_most : (low : ℕ) (ts : List Txn) (high i : ℕ) (t : Txn) → AreInARow low ts high → slice_get ts i ≡ Some t
    → t.0 ≤ high
row_most low [] high i t row at = absurd (cc)
row_most low (u ∷ ts) high zero t row at =
    omega (arith, row.0, row_length (low + 1) ts high row.1, ap (λ x. x.0) (same_Some u t at))
row_most low (u ∷ ts) high (suc i) t row at = row_most (low + 1) ts high i t row.1 at

-- a clear request takes none of the numbers behind its own
pub row_keeps : (n low : ℕ) (ts : List Txn) (high : ℕ) → n ≤ low → AreInARow low ts high
    → filter (λ t. not (n == t.0)) ts ≡ ts
row_keeps n low [] high below row = refl
row_keeps n low (u ∷ ts) high below row =
    let other : not (n == u.0) ≡ true = rw (ne_eqb n u.0 (λ (e : n ≡ u.0). omega (arith, below, row.0, e))) refl
    in cond-true (not (n == u.0)) (u ∷ filter (λ t. not (n == t.0)) ts) (filter (λ t. not (n == t.0)) ts) other
    ∙ ap (λ l. u ∷ l) (row_keeps n (low + 1) ts high (omega (arith, below)) row.1)

-- that of the first takes the first alone
pub row_clear : (n low : ℕ) (u : Txn) (ts : List Txn) (high : ℕ) → n ≡ low + 1 → AreInARow low (u ∷ ts) high
    → filter (λ t. not (n == t.0)) (u ∷ ts) ≡ ts
row_clear n low u ts high is row =
    let own : not (n == u.0) ≡ false = rw (eq-eqb n u.0 (omega (arith, is, row.0))) refl
    in cond-false (not (n == u.0)) (u ∷ filter (λ t. not (n == t.0)) ts) (filter (λ t. not (n == t.0)) ts) own
    ∙ row_keeps n (low + 1) ts high (omega (arith, is)) row.1

-- ---- slots
slot_below : (w : Workload) (h : List Event) (base cleared : ℕ) (t : Txn) → AreSlots w h base cleared
    → cleared < t.0 → t.0 ≤ seals h → slot_of_txn h t < journal_slots w
slot_below w h base cleared t s above most =
    omega (arith, s.slot_is t (omega (arith, s.order, above)) most, s.room, most)

-- each transaction in the journal has one of its slots
pub slot_in_journal : (w : Workload) (h : List Event) (i : ℕ) (t : Txn) → JournalKnown w h
    → slice_get (in_journal h) i ≡ Some t → slot_of_txn h t < journal_slots w
slot_in_journal w h i t f at =
    slot_below w h f.base f.cleared t f.slots
    (omega (arith, row_place f.cleared (in_journal h) (seals h) i t f.row at))
    (row_most f.cleared (in_journal h) (seals h) i t f.row at)

-- ---- the blocks of requests
log_within : (w : Workload) (slot k : ℕ) → slot < journal_slots w → k ≤ 261
    → descriptor_at slot + (k + 1) ≤ first_block w
log_within w slot k below most = by_version (nat_lt w.version 2) below
  where
    by_version : (b : Bool) → slot < (if b then 1 else 4) → descriptor_at slot + (k + 1) ≤ (if b then 526 else 1318)
    by_version true s = omega (arith, s, most)
    by_version false s = omega (arith, s, most)

commit_within : (w : Workload) (slot : ℕ) → slot < journal_slots w → commit_at slot + 1 ≤ first_block w
commit_within w slot below = by_version (nat_lt w.version 2) below
  where
    by_version : (b : Bool) → slot < (if b then 1 else 4) → commit_at slot + 1 ≤ (if b then 526 else 1318)
    by_version true s = omega (arith, s)
    by_version false s = omega (arith, s)

pub log_run : (w : Workload) (h : List Event) (id : ℕ) (t : Txn) (first n : ℕ) → JournalKnown w h
    → IsLogOf h t first n → IsJournalRun w (journal_request id (Log t) first n)
log_run w h id t first n f is =
    let at : AtStage h f.cleared (Sealed t is.buffers) = subst (AtStage h f.cleared) is.before f.stands
    in let slot = slot_below w h f.base f.cleared (last_txn h) f.slots (omega (arith, at.1, at.2)) (omega arith)
    in record {
      commits = refl;
      some = omega (arith, is.long);
      most = omega (arith, is.long, at.4);
      within = omega (arith, is.long, is.place, log_within w (slot_of_txn h (last_txn h)) is.buffers slot at.4);
    }

pub commit_run : (w : Workload) (h : List Event) (id : ℕ) (t : Txn) (first n : ℕ) → JournalKnown w h
    → IsCommitOf h t first n → IsJournalRun w (journal_request id (Commit t) first n)
commit_run w h id t first n f is =
    let at : AtStage h f.cleared (Logging t) = subst (AtStage h f.cleared) is.before f.stands
    in let slot = slot_below w h f.base f.cleared (last_txn h) f.slots (omega (arith, at.1, at.2)) (omega arith)
    in record {
      commits = refl;
      some = omega (arith, is.long);
      most = omega (arith, is.long);
      within = omega (arith, is.long, is.place, commit_within w (slot_of_txn h (last_txn h)) slot);
    }

oldest_first : (ts : List Txn) (t : Txn) → oldest_in ts ≡ Some t → slice_get ts 0 ≡ Some t
oldest_first [] t is = absurd (cc)
oldest_first (u ∷ ts) t is = is

pub clear_run : (w : Workload) (h : List Event) (id : ℕ) (t : Txn) (first n : ℕ) → JournalKnown w h
    → IsClearOf h t first n → IsJournalRun w (journal_request id (Clear t) first n)
clear_run w h id t first n f is =
    let slot = slot_in_journal w h 0 t f (oldest_first (in_journal h) t is.oldest)
    in record {
      commits = refl;
      some = omega (arith, is.long);
      most = omega (arith, is.long);
      within = omega (arith, is.long, is.place, commit_within w (slot_of_txn h t) slot);
    }

-- the block of a buffer of metadata is one of the first
home_within : (b : Buf) → IsMetadata b → home_block b ≤ 261
home_within buf.Bitmap is = omega arith
home_within (buf.Dir k) is = omega (arith, is)
home_within (buf.Inode slot) is = omega (arith, is)
home_within (buf.Page s g) is = absurd is

home_below : (h : List Event) (b : Buf) → next_home h ≡ Some b → home_block b ≤ 261
home_below h b is =
    let there = find_there (awaits_home h) metadata_buffers b is
    in let any = list_any_here (λ c. home_block c == home_block b) metadata_buffers there.0 b there.1
    (eq-eqb (home_block b) (home_block b) refl)
    in let same = metadata_any (λ c. home_block c == home_block b) any
    in omega (arith, home_within same.0 same.1, eqb-true (home_block same.0) (home_block b) same.2)

pub home_run : (w : Workload) (h : List Event) (id : ℕ) (t : Txn) (first n : ℕ)
    → IsHomeOf w h t first n → IsJournalRun w (journal_request id (Home t) first n)
home_run w h id t first n is = record {
  commits = refl;
  some = omega (arith, is.long);
  most = omega (arith, is.long);
  within = by_version (nat_lt w.version 2);
}
  where
    by_version : (b : Bool) → first + n ≤ (if b then 526 else 1318)
    by_version true = omega (arith, is.long, is.place, home_below h is.buffer is.awaits)
    by_version false = omega (arith, is.long, is.place, home_below h is.buffer is.awaits)

-- whichever request comes next in the journal, its blocks lie below those of data
pub journal_run : (w : Workload) (h : List Event) (id : ℕ) (kind : ReqKind) (first n : ℕ) → JournalKnown w h
    → Journals w h kind first n → IsJournalRun w (journal_request id kind first n)
journal_run w h id (Read p s g) first n f j = absurd (j)
journal_run w h id (Pages s g) first n f j = absurd (j)
journal_run w h id (Log t) first n f j = log_run w h id t first n f j
journal_run w h id (Commit t) first n f j = commit_run w h id t first n f j
journal_run w h id (Home t) first n f j = home_run w h id t first n j
journal_run w h id (Clear t) first n f j = clear_run w h id t first n f j

-- ---- requests that are unfinished at the same time
few_of_commit : (h : List Event) (i j : ℕ) (q r : Request) → slice_get (unfinished h) i ≡ Some q
    → slice_get (unfinished h) j ≡ Some r → is_of_commit q ≡ true → is_of_commit r ≡ true → under_way h ≤ 1 → i ≡ j
few_of_commit h i j q r at there first second few =
    one_passes is_of_commit (unfinished h) i j q r at there first second
    (omega (arith, few, length-filter is_of_commit (unfinished h)))

-- no two of the journal's write one block
pub journal_apart : (w : Workload) (h : List Event) (x i j : ℕ) (q r : Request) → JournalKnown w h
    → slice_get (unfinished h) i ≡ Some q → slice_get (unfinished h) j ≡ Some r → is_of_commit q ≡ true
    → is_of_commit r ≡ true → q.first ≤ x → x < q.first + q.n → r.first ≤ x → x < r.first + r.n → i ≡ j
journal_apart w h x i j q r f at there first second low high least most = by_stage (stage h) f.stands
  where
    few : under_way h ≤ 1 → i ≡ j
    few one = few_of_commit h i j q r at there first second one

    by_stage : (s : Stage) → AtStage h f.cleared s → i ≡ j
    by_stage Fresh is = few (omega (arith, is.0))
    by_stage (Sealed t k) is = few (omega (arith, is.0))
    by_stage (Logging t) is = few is.0
    by_stage (Committing t) is = few is.0
    by_stage (Homing t) is =
        let homes : AreHomes h t = is.2
        in homes.apart i j q r at there first second
        (omega (arith, homes.long i q at first, homes.long j r there second, low, high, least, most))
    by_stage (Clearing t) (inl is) = few (omega (arith, is.0))
    by_stage (Clearing t) (inr is) = few (omega (arith, is))

-- how many are unfinished after one is added or done
pub under_add : (left : List Request) (r : Request) → is_of_commit r ≡ true
    → length (filter is_of_commit (left ++ r ∷ [])) ≡ length (filter is_of_commit left) + 1
under_add left r commits =
    omega (
      arith,
      length-filter is_of_commit (left ++ r ∷ []),
      length-filter is_of_commit left,
      count_push is_of_commit left r,
      one (is_of_commit r) commits,
    )
  where
    one : (b : Bool) → b ≡ true → ◌≡◌ {A = ℕ} (cond b 1 0) 1
    one b is = rw is refl

pub under_less : (left : List Request) (p : Request → Bool)
    → length (filter is_of_commit (filter p left)) ≤ length (filter is_of_commit left)
under_less left p =
    omega (
      arith,
      length-filter is_of_commit (filter p left),
      length-filter is_of_commit left,
      count_filter_less is_of_commit p left,
    )

pub kinds_less : (kind : ReqKind) (left : List Request) (p : Request → Bool) → AreOfKind kind left
    → AreOfKind kind (filter p left)
kinds_less kind left p kinds i r at commits = let there = filter_there p left i r at in kinds there.0 r there.1 commits

-- ---- the empty history
pub journal_none : (w : Workload) → JournalKnown w []
journal_none w = record {
  cleared = 0;
  base = 0;
  row = refl;
  slots = record {
    order = omega arith;
    room = omega arith;
    slot_is = λ t above most. absurd (omega (arith, above, most));
    open_is = (refl, refl);
  };
  numbers = λ i r at. absurd (cc);
  runs = λ i r at. absurd (cc);
  stands = (refl, refl);
  committed = λ t above below. absurd (omega (arith, above, below));
  last = tt;
  ordered = λ i r t at kind. absurd (cc);
}

-- a request that is added next in the journal keeps the blocks of all below those of data
pub runs_journal : (w : Workload) (all : List Request) (r : Request) → IsJournalRun w r → AreJournalRuns w all
    → AreJournalRuns w (all ++ r ∷ [])
runs_journal w all r run runs i q at commits = elim (slice_get-push all r i q at) [
  | inl old ↦ runs i q old commits
  | inr new ↦ subst (IsJournalRun w) new.1 run
]

-- one that moves pages does so too
pub runs_pages : (w : Workload) (all : List Request) (r : Request) → is_of_commit r ≡ false → AreJournalRuns w all
    → AreJournalRuns w (all ++ r ∷ [])
runs_pages w all r none runs i q at commits = elim (slice_get-push all r i q at) [
  | inl old ↦ runs i q old commits
  | inr new ↦
      absurd (both_ways (is_of_commit q) (subst (λ x. is_of_commit x ≡ false) new.1 none) commits)
]
