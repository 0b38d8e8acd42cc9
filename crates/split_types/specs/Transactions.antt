-- Transactions: which are in the journal and in which slot, which buffers of metadata wait for a seal or for their home,
-- and what the commit thread did last.
use Rattle.std.specs.Prelude.{ℕ, ◌+◌, ◌*◌, ◌==◌, List, [], ◌∷◌, ◌++◌, length, filter, find, nat_lt, Bool, true, false, not, Option, Some, None, if◌then◌else◌}
use Rattle.split_types.specs.declared.ids.Txn.{Txn}
use Rattle.split_types.specs.declared.buf.Buf.{Buf}
use Rattle.split_types.specs.declared.request.ReqKind.{ReqKind}
use Rattle.split_types.specs.declared.request.ReqKind.TheVariants.{Read, Pages, Log, Commit, Home, Clear}
use Rattle.split_types.specs.declared.request.Request.{Request}
use Rattle.split_types.specs.declared.workload.Workload.{Workload}
use Rattle.split_types.specs.declared.event.Event.{Event}
use Rattle.split_types.specs.declared.event.Event.TheVariants.{Seal, Add, Done}
use Rattle.split_types.specs.History.{◌▹◌}
use Rattle.split_types.specs.OpenDirtyings.{open_at}
use Rattle.split_types.specs.Parents.{metadata_buffers, home_block}
use Rattle.split_types.specs.Requests.{unfinished}
use Rattle.split_types.specs.Reads.{request_numbered}

-- ---- the journal

-- the number of slots of the journal
abbrev pub journal_slots : Workload → ℕ
journal_slots w = if nat_lt w.version 2 then 1 else 4

-- the block of a slot's descriptor, behind which the images of its buffers stand, and that of its commit block
abbrev pub descriptor_at : ℕ → ℕ
descriptor_at slot = 262 + 264 * slot

abbrev pub commit_at : ℕ → ℕ
commit_at slot = 525 + 264 * slot

-- the request clears the transaction from the journal
abbrev pub clears : Txn → Option Request → Bool
clears t None = false
clears t (Some r) = by_kind r.kind where
  by_kind : ReqKind → Bool
  by_kind (Clear u) = u.0 == t.0
  by_kind _ = false

-- the transactions that are in the journal, in the order of their seals: those whose clear request isn't done well yet
abbrev pub in_journal : List Event → List Txn
in_journal [] = []
in_journal (h ▹ Seal t k) = in_journal h ++ t ∷ []
in_journal (h ▹ Done k id true) = filter (λ t. not (clears t (request_numbered h id))) (in_journal h)
in_journal (h ▹ e) = in_journal h

-- the first of them
abbrev pub oldest_in : List Txn → Option Txn
oldest_in [] = None
oldest_in (t ∷ ts) = Some t

-- ---- buffers of metadata

-- the buffer is marked: it was dirtied since the last seal
abbrev pub is_marked : List Event → Buf → Bool
is_marked h b = nat_lt 0 (length (open_at h b))

-- all marked buffers of metadata, by rising block
abbrev pub marked_buffers : List Event → List Buf
marked_buffers h = filter (is_marked h) metadata_buffers

-- the request brings the buffer to its home block
abbrev pub brings_home : Request → Buf → Bool
brings_home r b = by_kind r.kind where
  by_kind : ReqKind → Bool
  by_kind (Home t) = r.first == home_block b
  by_kind _ = false

-- the places of the dirtyings of a buffer that seals took, and that no home request brings home which was added since
abbrev pub awaiting_at : List Event → Buf → List ℕ
awaiting_at [] b = []
awaiting_at (h ▹ Seal t k) b = open_at h b ++ awaiting_at h b
awaiting_at (h ▹ Add by r) b = elim (brings_home r b) [ true ↦ [] | false ↦ awaiting_at h b ]
awaiting_at (h ▹ e) b = awaiting_at h b

-- the buffer awaits its home request
abbrev pub awaits_home : List Event → Buf → Bool
awaits_home h b = nat_lt 0 (length (awaiting_at h b))

-- the one that goes home next: that of the least block
abbrev pub next_home : List Event → Option Buf
next_home h = find (awaits_home h) metadata_buffers

-- ---- the commit thread

-- the request is one of the commit thread's
abbrev pub is_of_commit : Request → Bool
is_of_commit r = by_kind r.kind where
  by_kind : ReqKind → Bool
  by_kind (Read p s g) = false
  by_kind (Pages s g) = false
  by_kind _ = true

-- how many of its requests aren't done well yet
abbrev pub under_way : List Event → ℕ
under_way h = length (filter is_of_commit (unfinished h))

-- what the commit thread did last: nothing, the seal of a transaction with so many buffers, or the add of its log, of
-- its commit request, of a home request of its round, or of the request that clears it
pub data Stage : Type 0 where
  Fresh : Stage
  Sealed : Txn → ℕ → Stage
  Logging : Txn → Stage
  Committing : Txn → Stage
  Homing : Txn → Stage
  Clearing : Txn → Stage

abbrev pub stage_of_add : ReqKind → Stage → Stage
stage_of_add (Log t) stage = Logging t
stage_of_add (Commit t) stage = Committing t
stage_of_add (Home t) stage = Homing t
stage_of_add (Clear t) stage = Clearing t
stage_of_add _ stage = stage

abbrev pub stage : List Event → Stage
stage [] = Fresh
stage (h ▹ Seal t k) = Sealed t k
stage (h ▹ Add by r) = stage_of_add r.kind (stage h)
stage (h ▹ e) = stage h
