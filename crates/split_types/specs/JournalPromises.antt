-- What holds of the journal in every history that an accepted workload may have.
use Rattle.std.specs.Prelude.{◌≡◌, ℕ, ◌+◌, ◌==◌, ◌<◌, ◌≤◌, List, length, slice_get, Bool, false, Some, None, IsTrue}
use Rattle.std.specs.List.{list_any}
use Rattle.split_types.specs.declared.actor.Actor.TheVariants.{Cm}
use Rattle.split_types.specs.declared.buf.Buf.{Buf}
use Rattle.split_types.specs.declared.request.ReqKind.{ReqKind}
use Rattle.split_types.specs.declared.ids.Pid.{Pid}
use Rattle.split_types.specs.declared.ids.Txn.{Txn}
use Rattle.split_types.specs.declared.ids.ReqId.{ReqId}
use Rattle.split_types.specs.declared.facts.ReqState.TheVariants as state
use Rattle.split_types.specs.declared.call.Call.TheVariants.{Fsync}
use Rattle.split_types.specs.declared.call.Reply.TheVariants as reply
use Rattle.split_types.specs.declared.request.ReqKind.TheVariants.{Log, Commit, Home, Clear}
use Rattle.split_types.specs.declared.request.Request.{Request}
use Rattle.split_types.specs.declared.workload.Workload.{Workload}
use Rattle.split_types.specs.declared.event.Event.{Event}
use Rattle.split_types.specs.declared.event.Event.TheVariants.{Ret, Seal, Add, Send}
use Rattle.split_types.specs.History.{◌▹◌, event_at, older}
use Rattle.split_types.specs.Rounds.{before_seal, last_txn, next_txn, slot_of_txn}
use Rattle.split_types.specs.Requests.{is_pages, requests, state_of}
use Rattle.split_types.specs.Reads.{request_numbered}
use Rattle.split_types.specs.Calls.{call_of}
use Rattle.split_types.specs.FileMaps.{is_committed}
use Rattle.split_types.specs.Transactions.{journal_slots, descriptor_at, commit_at, in_journal, oldest_in, marked_buffers, next_home, under_way}
use Rattle.split_types.specs.Parents.{home_block}
use Rattle.split_types.specs.Bills.{sealed}
use Rattle.split_types.specs.Syncing.{awaited_txn}
use Rattle.split_types.specs.Accepted.{IsAccepted}
use Rattle.split_types.specs.Legal.{IsLegal}

-- ---- seals

-- a seal has the next number, and takes all that is marked, while a slot is left
pub record IsSealed (w : Workload) (h : List Event) (t : Txn) (k : ℕ) : Type 0 where
  pub number : t ≡ next_txn h
  pub takes : k ≡ length (marked_buffers h)
  pub some : 1 ≤ k
  pub most : k ≤ 261
  pub left : length (in_journal h) < journal_slots w

abbrev pub SealsInOrder : Type 0
SealsInOrder =
    (w : Workload) (h : List Event) (t : Txn) (k : ℕ) → IsAccepted w → IsLegal w (h ▹ Seal t k) → IsSealed w h t k

-- ---- the requests of a transaction come in order

-- the request is the log of the transaction
abbrev pub is_log_of : Txn → Request → Bool
is_log_of t r = by_kind r.kind where
  by_kind : ReqKind → Bool
  by_kind (Log u) = u.0 == t.0
  by_kind _ = false

-- the log of the transaction that was sealed last, in its slot: a descriptor, and an image of each of its buffers
pub record LogFollows (h : List Event) (t : Txn) (first n : ℕ) : Type 0 where
  pub last : t ≡ last_txn h
  pub place : first ≡ descriptor_at (slot_of_txn h t)
  pub long : n ≡ length (sealed h t) + 1

-- its commit request, when the log was added and is done
pub record CommitFollows (h : List Event) (t : Txn) (first n : ℕ) : Type 0 where
  pub last : t ≡ last_txn h
  pub logged : IsTrue (list_any (is_log_of t) (requests h))
  pub done : under_way h ≡ 0
  pub place : first ≡ commit_at (slot_of_txn h t)
  pub long : n ≡ 1

-- a home request, when all transactions in the journal are committed: for the buffer of the least block that awaits one
pub record HomeFollows (h : List Event) (t : Txn) (first n : ℕ) : Type 0 where
  pub last : t ≡ last_txn h
  pub committed : (i : ℕ) (u : Txn) → slice_get (in_journal h) i ≡ Some u → IsTrue (is_committed h u)
  pub buffer : Buf
  pub least : next_home h ≡ Some buffer
  pub place : first ≡ home_block buffer
  pub long : n ≡ 1

-- the request that clears the first transaction in the journal, when all buffers are home
pub record ClearFollows (h : List Event) (t : Txn) (first n : ℕ) : Type 0 where
  pub oldest : oldest_in (in_journal h) ≡ Some t
  pub home : next_home h ≡ None
  pub done : under_way h ≡ 0
  pub place : first ≡ commit_at (slot_of_txn h t)
  pub long : n ≡ 1

abbrev pub Follows : List Event → ReqKind → ℕ → ℕ → Type 0
Follows h (Log t) first n = LogFollows h t first n
Follows h (Commit t) first n = CommitFollows h t first n
Follows h (Home t) first n = HomeFollows h t first n
Follows h (Clear t) first n = ClearFollows h t first n
Follows h _ first n = ⊥

abbrev pub JournalInOrder : Type 0
JournalInOrder =
    (w : Workload) (h : List Event) (r : Request) → IsAccepted w → IsLegal w (h ▹ Add Cm r)
    → Follows h r.kind r.first r.n

-- ---- no commit record before its data

-- when the commit request of a transaction is sent, every request for pages that was added before its seal is done well
abbrev pub CommitOrder : Type 0
CommitOrder =
    (w : Workload) (h : List Event) (id : ReqId) (cost : ℕ) (r q : Request) (t : Txn) (i : ℕ)
    → IsAccepted w → IsLegal w (h ▹ Send id cost) → request_numbered h id ≡ Some r
    → r.kind ≡ Commit t → slice_get (requests (before_seal h t)) i ≡ Some q → IsTrue (is_pages q)
    → state_of h q.id.0 ≡ state.Done

-- no commit record is sent before its data: wherever the commit request of a transaction is sent, every request for pages
-- that was added before its seal is done well by then
abbrev pub CommitsWait : List Event → Type 0
CommitsWait h =
    (i : ℕ) (id : ReqId) (cost : ℕ) (r q : Request) (t : Txn) (k : ℕ) → event_at h i ≡ Some (Send id cost)
    → request_numbered (older h i) id ≡ Some r → r.kind ≡ Commit t
    → slice_get (requests (before_seal (older h i) t)) k ≡ Some q → IsTrue (is_pages q)
    → state_of (older h i) q.id.0 ≡ state.Done

abbrev pub CommitsInOrder : Type 0
CommitsInOrder = (w : Workload) (h : List Event) → IsAccepted w → IsLegal w h → CommitsWait h

-- ---- an fsync returns when its file is committed

-- when an fsync returns, the last make or map of its file before it was flushed is committed
abbrev pub SyncsAreCommitted : Type 0
SyncsAreCommitted =
    (w : Workload) (h : List Event) (p : Pid) (name : List ℕ) (t : Txn) → IsAccepted w
    → IsLegal w (h ▹ Ret p reply.Done) → call_of w h p.0 ≡ Some (Fsync name)
    → awaited_txn w h p.0 ≡ Some t → IsTrue (is_committed h t)
