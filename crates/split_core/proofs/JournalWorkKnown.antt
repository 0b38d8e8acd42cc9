-- What the journal that runs along with a history has to do with it, and that it keeps this where nothing of it changes.
use Rattle.std.proofs.Common.{◌≡◌, ℕ, ◌+◌, ◌≤◌, ◌⊎◌, List, [], length, get_or, slice_get, nat_le, Bool, true, ◌&&◌, Option, Some, None, ap, sym, subst, ◌∙◌, inl, inr, arith}
use Rattle.std.specs.Option.{is_some}
use Rattle.split_types.specs.declared.ids.Txn.{Txn}
use Rattle.split_types.specs.declared.buf.Buf.{Buf}
use Rattle.split_types.specs.declared.request.Request.{Request}
use Rattle.split_types.specs.declared.workload.Workload.{Workload}
use Rattle.split_types.specs.declared.event.Event.{Event}
use Rattle.split_types.specs.ByPlace.{IsMetadata}
use Rattle.split_types.specs.FileMaps.{is_committed}
use Rattle.split_types.specs.Requests.{unfinished}
use Rattle.split_types.specs.Rounds.{seals, last_txn, slot_of_txn}
use Rattle.split_types.specs.Transactions.{journal_slots, descriptor_at, commit_at, in_journal, oldest_in, is_marked, awaits_home, next_home, is_of_commit, under_way, stage, Stage}
use Rattle.split_types.specs.Transactions.Stage.{Fresh, Sealed, Logging, Committing, Homing, Clearing}
use Rattle.proxies.specs.declared.commit.Commit.{Commit}
use Rattle.proxies.specs.declared.commit.Commit.TheVariants.{Idle, Log, Marking, Homes, Clear}
use Rattle.journal_core.specs.declared.work.Work.{Work}
use Rattle.journal_core.specs.Places.{place_of, blocks_of}
use Rattle.journal_core.specs.Journaled.{Journaled}

-- two transactions of one number are one
pub same_txn : (t u : Txn) → t.0 ≡ u.0 → t ≡ u
same_txn t u e = ap (λ n. record { 0 = n }) e

-- ---- what is kept of the commit thread's work
abbrev pub work_of : Commit ℕ → ℕ → ℕ → ℕ → ℕ → Work
work_of stage unfinished sealed committed used =
    record { stage = stage; unfinished = unfinished; sealed = sealed; committed = committed; used = used }

-- nothing is under way, and all that were sealed are committed
abbrev pub Rests : List Event → Work → Type 0
Rests h work = work ≡ work_of Idle 0 (seals h) (seals h) (length (in_journal h))

-- the transaction that was sealed last is written: it alone isn't committed
pub record Writes (h : List Event) (work : Work) (stage : Commit ℕ) (unfinished : ℕ) : Type 0 where
  pub committed : ℕ
  pub before : committed + 1 ≡ seals h
  pub work_is : work ≡ work_of stage unfinished (seals h) committed (length (in_journal h))

-- the buffers of the round go home; one is left to be added, or one is under way
pub record GoesHome (h : List Event) (work : Work) (t : Txn) : Type 0 where
  pub slot : ℕ
  pub added : ℕ
  pub work_is : work
      ≡ work_of (Homes t slot added) (under_way h) (seals h) (seals h) (length (in_journal h))
  pub some : next_home h ≡ None → 1 ≤ under_way h

-- the first transaction in the journal is cleared, or is next; the round has as many as the slot of the last one says
pub record Clears (h : List Event) (work : Work) : Type 0 where
  pub txn : Txn
  pub oldest : oldest_in (in_journal h) ≡ Some txn
  pub work_is : work
      ≡ work_of (Clear txn (slot_of_txn h txn)) (under_way h) (seals h) (seals h) (slot_of_txn h (last_txn h) + 1)

-- by what the commit thread did last
abbrev pub Works : List Event → Work → ℕ → Stage → Type 0
Works h work logged Fresh = Rests h work
Works h work logged (Sealed t k) = Writes h work (Log t (slot_of_txn h t)) 0 × (logged ≡ k)
Works h work logged (Logging t) =
    ((under_way h ≡ 1) × Writes h work (Log t (slot_of_txn h t)) 1)
    ⊎ ((under_way h ≡ 0) × Writes h work (Marking t (slot_of_txn h t)) 0)
Works h work logged (Committing t) =
    ((under_way h ≡ 1) × Writes h work (Marking t (slot_of_txn h t)) 1) ⊎ ((under_way h ≡ 0) × Rests h work)
Works h work logged (Homing t) =
    GoesHome h work t ⊎ ((next_home h ≡ None) × (under_way h ≡ 0) × Clears h work)
Works h work logged (Clearing t) = Clears h work ⊎ ((under_way h ≡ 0) × (in_journal h ≡ []) × Rests h work)

-- some buffer is left to go home until its round does
abbrev pub LeavesHomes : ℕ → Stage → Type 0
LeavesHomes homes (Sealed t k) = 1 ≤ homes
LeavesHomes homes (Logging t) = 1 ≤ homes
LeavesHomes homes (Committing t) = 1 ≤ homes
LeavesHomes homes _ = Unit {0}

-- where a request of the commit thread that isn't done well begins
abbrev pub BeginsAt : List Event → Stage → ℕ → Type 0
BeginsAt h (Logging t) first = first ≡ descriptor_at (slot_of_txn h t)
BeginsAt h (Committing t) first = first ≡ commit_at (slot_of_txn h t)
BeginsAt h (Clearing t) first = first ≡ commit_at (slot_of_txn h t)
BeginsAt h _ first = Unit {0}

abbrev pub Begin : List Event → Stage → Type 0
Begin h s =
    (i : ℕ) (r : Request) → slice_get (unfinished h) i ≡ Some r → is_of_commit r ≡ true → BeginsAt h s r.first

-- places have something exactly for the buffers of metadata that pass a test
abbrev pub AreFor : (Buf → Bool) → List (Option (List ℕ)) → Type 0
AreFor test places = (b : Buf) → IsMetadata b → is_some (get_or places (place_of b) None) ≡ test b

pub record Stands (w : Workload) (h : List Event) (j : Journaled (List ℕ)) : Type 0 where
  pub marks_long : length j.marks ≡ 261
  pub round_long : length j.round ≡ 261
  pub slots_long : length j.slots ≡ journal_slots w
  pub marks_are : AreFor (is_marked h) j.marks
  pub round_is : AreFor (awaits_home h) j.round
  pub works : Works h j.work (length j.logged) (stage h)
  pub homes : LeavesHomes (length (blocks_of j.round)) (stage h)
  pub begin : Begin h (stage h)
  pub committed : (t : Txn) → is_committed h t ≡ (nat_le 1 t.0 && nat_le t.0 j.work.committed)

-- ---- where the history of the journal stays as it is
pub record Keeps (h g : List Event) : Type 0 where
  pub same_stage : stage g ≡ stage h
  pub sealed : seals g ≡ seals h
  pub held : in_journal g ≡ in_journal h
  pub slot : (t : Txn) → slot_of_txn g t ≡ slot_of_txn h t
  pub under : under_way g ≡ under_way h
  pub left : (i : ℕ) (r : Request) → slice_get (unfinished g) i ≡ Some r → is_of_commit r ≡ true
      → (k : ℕ) × (slice_get (unfinished h) k ≡ Some r)
  pub home : next_home g ≡ next_home h
  pub awaits : (b : Buf) → awaits_home g b ≡ awaits_home h b
  pub settled : (t : Txn) → is_committed g t ≡ is_committed h t

rests_on : (h g : List Event) (work : Work) → Keeps h g → Rests h work → Rests g work
rests_on h g work k is = rw (k.sealed, k.held) is

writes_on : (h g : List Event) (work : Work) (stage on : Commit ℕ) (unfinished : ℕ) → Keeps h g → on ≡ stage
    → Writes h work stage unfinished → Writes g work on unfinished
writes_on h g work stage on unfinished k same is = record {
  committed = is.committed;
  before = is.before ∙ sym k.sealed;
  work_is = rw (k.sealed, k.held, same) is.work_is;
}

goes_on : (h g : List Event) (work : Work) (t : Txn) → Keeps h g → GoesHome h work t → GoesHome g work t
goes_on h g work t k is = record {
  slot = is.slot;
  added = is.added;
  work_is = rw (k.sealed, k.held, k.under) is.work_is;
  some = λ none. omega (arith, k.under, is.some (sym k.home ∙ none));
}

last_slot : (h g : List Event) → Keeps h g → slot_of_txn g (last_txn g) ≡ slot_of_txn h (last_txn h)
last_slot h g k = ap (λ n. slot_of_txn g (record { 0 = n })) k.sealed ∙ k.slot (last_txn h)

clears_on : (h g : List Event) (work : Work) → Keeps h g → Clears h work → Clears g work
clears_on h g work k is = record {
  txn = is.txn;
  oldest = ap oldest_in k.held ∙ is.oldest;
  work_is = rw (last_slot h g k, k.slot is.txn, k.sealed, k.under) is.work_is;
}

pub works_on : (h g : List Event) (work : Work) (logged : ℕ) (s : Stage) → Keeps h g → Works h work logged s
    → Works g work logged s
works_on h g work logged Fresh k is = rests_on h g work k is
works_on h g work logged (Sealed t n) k is =
    (writes_on h g work (Log t (slot_of_txn h t)) (Log t (slot_of_txn g t)) 0 k (ap (Log t) (k.slot t)) is.0, is.1)
works_on h g work logged (Logging t) k (inl is) =
    inl (
      k.under ∙ is.0,
      writes_on h g work (Log t (slot_of_txn h t)) (Log t (slot_of_txn g t)) 1 k (ap (Log t) (k.slot t)) is.1,
    )
works_on h g work logged (Logging t) k (inr is) =
    inr (
      k.under ∙ is.0,
      writes_on h g work (Marking t (slot_of_txn h t)) (Marking t (slot_of_txn g t)) 0 k (ap (Marking t) (k.slot t)) is.1,
    )
works_on h g work logged (Committing t) k (inl is) =
    inl (
      k.under ∙ is.0,
      writes_on h g work (Marking t (slot_of_txn h t)) (Marking t (slot_of_txn g t)) 1 k (ap (Marking t) (k.slot t)) is.1,
    )
works_on h g work logged (Committing t) k (inr is) = inr (k.under ∙ is.0, rests_on h g work k is.1)
works_on h g work logged (Homing t) k (inl is) = inl (goes_on h g work t k is)
works_on h g work logged (Homing t) k (inr is) = inr (k.home ∙ is.0, k.under ∙ is.1, clears_on h g work k is.2)
works_on h g work logged (Clearing t) k (inl is) = inl (clears_on h g work k is)
works_on h g work logged (Clearing t) k (inr is) = inr (k.under ∙ is.0, k.held ∙ is.1, rests_on h g work k is.2)

begins_on : (h g : List Event) (s : Stage) (first : ℕ) → Keeps h g → BeginsAt h s first → BeginsAt g s first
begins_on h g Fresh first k is = tt
begins_on h g (Sealed t n) first k is = tt
begins_on h g (Logging t) first k is = is ∙ ap descriptor_at (sym (k.slot t))
begins_on h g (Committing t) first k is = is ∙ ap commit_at (sym (k.slot t))
begins_on h g (Homing t) first k is = tt
begins_on h g (Clearing t) first k is = is ∙ ap commit_at (sym (k.slot t))

-- only the marks change
pub marked_on : (w : Workload) (h g : List Event) (j : Journaled (List ℕ)) (marks : List (Option (List ℕ)))
    → Keeps h g → Stands w h j → length marks ≡ 261 → AreFor (is_marked g) marks
    → Stands w g (record j { marks = marks })
marked_on w h g j marks k s long are = record {
  marks_long = long;
  round_long = s.round_long;
  slots_long = s.slots_long;
  marks_are = are;
  round_is = λ b is. s.round_is b is ∙ sym (k.awaits b);
  works =
      subst (Works g j.work (length j.logged)) (sym k.same_stage)
      (works_on h g j.work (length j.logged) (stage h) k s.works);
  homes = subst (LeavesHomes (length (blocks_of j.round))) (sym k.same_stage) s.homes;
  begin = λ i r at commits. subst (λ t. BeginsAt g t r.first) (sym k.same_stage) (was i r at commits);
  committed = λ t. k.settled t ∙ s.committed t;
}
  where
    was : (i : ℕ) (r : Request) → slice_get (unfinished g) i ≡ Some r → is_of_commit r ≡ true
        → BeginsAt g (stage h) r.first
    was i r at commits =
        let there = k.left i r at commits in
        begins_on h g (stage h) r.first k (s.begin there.0 r there.1 commits)

-- nothing changes
pub stands_on : (w : Workload) (h g : List Event) (j : Journaled (List ℕ)) → Keeps h g
    → ((b : Buf) → IsMetadata b → is_marked g b ≡ is_marked h b) → Stands w h j → Stands w g j
stands_on w h g j k marks s =
    marked_on w h g j j.marks k s s.marks_long (λ b is. s.marks_are b is ∙ sym (marks b is))
