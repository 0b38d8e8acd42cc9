-- What the commit thread does next.
use Rattle.std.specs.Prelude.{ℕ, ◌+◌, ◌==◌, List, length, nat_lt, Bool, true, false, not, ◌&&◌, ◌||◌, Option, Some, None}
use Rattle.std.specs.List.{list_all}
use Rattle.split_types.specs.declared.ids.Txn.{Txn}
use Rattle.split_types.specs.declared.actor.Actor.TheVariants.{Cm}
use Rattle.split_types.specs.declared.buf.Buf.{Buf}
use Rattle.split_types.specs.declared.request.ReqKind.{ReqKind}
use Rattle.split_types.specs.declared.request.ReqKind.TheVariants as kind
use Rattle.split_types.specs.declared.request.Service.{Service}
use Rattle.split_types.specs.declared.request.Service.TheVariants.{Mapped}
use Rattle.split_types.specs.declared.workload.Workload.{Workload}
use Rattle.split_types.specs.declared.event.Event.{Event}
use Rattle.split_types.specs.declared.event.Event.TheVariants.{Seal, Add}
use Rattle.split_types.specs.History.{adds}
use Rattle.split_types.specs.Rows.{◌⇒◌∣◌}
use Rattle.split_types.specs.Rounds.{last_txn, next_txn, slot_of_txn}
use Rattle.split_types.specs.Parents.{home_block}
use Rattle.split_types.specs.Workloads.{processes}
use Rattle.split_types.specs.Calls.{is_finished}
use Rattle.split_types.specs.Writeback.{service}
use Rattle.split_types.specs.Transactions.{journal_slots, descriptor_at, commit_at, in_journal, oldest_in, marked_buffers, next_home, under_way, stage, Stage}
use Rattle.split_types.specs.Transactions.Stage.{Fresh, Sealed, Logging, Committing, Homing, Clearing}

-- ---- what decides

-- a run was mapped, and its request wasn't added yet
abbrev pub is_map_waiting : Service → Bool
is_map_waiting (Mapped run) = true
is_map_waiting _ = false

-- what decides what the commit thread does next: one field for each phrase of its table
pub record CommitState : Type 0 where
  -- the number of its requests that aren't done well yet
  pub under_way : ℕ
  -- the transaction that was sealed last, and its slot
  pub last : Txn
  pub last_slot : ℕ
  -- the first transaction that is in the journal, and its slot
  pub oldest : Option Txn
  pub oldest_slot : ℕ
  -- the number of slots that are in use, and that of all slots
  pub used : ℕ
  pub slots : ℕ
  -- the number of marked buffers, and the transaction that takes them
  pub marked : ℕ
  pub next : Txn
  -- all calls have returned; a map waits for its add or skip
  pub all_returned : Bool
  pub map_waits : Bool
  -- the buffer that goes home next; none where none is left
  pub home : Option Buf
  -- the number of requests so far
  pub adds : ℕ

-- the slot of a transaction, if there is one
abbrev pub slot_of_some_txn : List Event → Option Txn → ℕ
slot_of_some_txn h None = 0
slot_of_some_txn h (Some t) = slot_of_txn h t

abbrev pub commit_state : Workload → List Event → CommitState
commit_state w h = record {
  under_way = under_way h;
  last = last_txn h;
  last_slot = slot_of_txn h (last_txn h);
  oldest = oldest_in (in_journal h);
  oldest_slot = slot_of_some_txn h (oldest_in (in_journal h));
  used = length (in_journal h);
  slots = journal_slots w;
  marked = length (marked_buffers h);
  next = next_txn h;
  all_returned = list_all (is_finished w h) (processes w);
  map_waits = is_map_waiting (service h);
  home = next_home h;
  adds = adds h;
}

-- ---- the table

-- the commit thread adds a request for n blocks from this one on
abbrev pub add_in : CommitState → ReqKind → ℕ → ℕ → Option Event
add_in c kind first n =
    Some (Add Cm (record { id = record { 0 = c.adds }; kind = kind; first = first; n = n }))

-- the log has a descriptor and an image of each of so many buffers
abbrev pub add_log : CommitState → Txn → ℕ → Option Event
add_log c t k = add_in c (kind.Log t) (descriptor_at c.last_slot) (k + 1)

abbrev pub add_commit : CommitState → Txn → Option Event
add_commit c t = add_in c (kind.Commit t) (commit_at c.last_slot) 1

-- the home requests of a round are those of its last transaction
abbrev pub add_home : CommitState → Buf → Option Event
add_home c b = add_in c (kind.Home c.last) (home_block b) 1

abbrev pub add_clear : CommitState → Txn → Option Event
add_clear c t = add_in c (kind.Clear t) (commit_at c.oldest_slot) 1

-- all marked buffers are sealed where a slot is left, some are marked, and no map waits
abbrev pub next_of_sealing : CommitState → Option Event
next_of_sealing c =
    nat_lt c.used c.slots && nat_lt 0 c.marked && not c.map_waits ⇒ Some (Seal c.next c.marked)
    ∣ None

-- the round goes home where some slot is in use, and either all are, or all calls have returned and nothing is marked
abbrev pub goes_home : CommitState → Bool
goes_home c = nat_lt 0 c.used && (c.used == c.slots || (c.all_returned && c.marked == 0))

-- nothing that it began is left to be done
abbrev pub next_of_idle : CommitState → Option Event
next_of_idle c =
    goes_home c ⇒ elim c.home [ None ↦ None | Some b ↦ add_home c b ]
    ∣ next_of_sealing c

-- all buffers of the round are home, and what is left is to clear its transactions, one after another
abbrev pub next_of_clearing : CommitState → Option Event
next_of_clearing c = elim c.oldest [ None ↦ next_of_idle c | Some t ↦ add_clear c t ]

-- the buffers of the round go home, one after another, without waiting for each other
abbrev pub next_of_homing : CommitState → Option Event
next_of_homing c =
    elim c.home [
      | Some b ↦ add_home c b
      | None ↦ (nat_lt 0 c.under_way ⇒ None ∣ next_of_clearing c)
    ]

-- what comes next by what the commit thread did last
abbrev pub next_of_stage : CommitState → Stage → Option Event
next_of_stage c Fresh = next_of_idle c
next_of_stage c (Sealed t k) = add_log c t k
next_of_stage c (Logging t) = nat_lt 0 c.under_way ⇒ None ∣ add_commit c t
next_of_stage c (Committing t) = nat_lt 0 c.under_way ⇒ None ∣ next_of_idle c
next_of_stage c (Homing t) = next_of_homing c
next_of_stage c (Clearing t) = nat_lt 0 c.under_way ⇒ None ∣ next_of_clearing c

abbrev pub next_of_commit : Workload → List Event → Option Event
next_of_commit w h = next_of_stage (commit_state w h) (stage h)
