-- What contracts see of a journal, and what its calls make of it.
use Rattle.std.specs.Prelude.{◌≡◌, ℕ, ◌+◌, ◌-◌, ◌<◌, ◌≤◌, ◌==◌, Bool, not, ◌&&◌, ◌||◌, nat_lt, nat_le, if◌then◌else◌, List, [], ◌++◌, length, replicate, slice_get, slice_index_or, slice_set, Option, Some, None, IsSome}
use Rattle.std.specs.List.{flat_map}
use Rattle.split_types.specs.declared.ids.Txn.{Txn}
use Rattle.split_types.specs.declared.request.ReqKind.{ReqKind}
use Rattle.split_types.specs.declared.request.ReqKind.TheVariants as kind
use Rattle.split_types.specs.DiskLayout.{descriptor_block, commit_block, zero_block, IsDescriptor}
use Rattle.split_types.specs.LiveFiles.{Slots}
use Rattle.cause_set.specs.Tags.{Tags, same, held}
use Rattle.proxies.specs.declared.commit.Commit.{Commit}
use Rattle.proxies.specs.declared.commit.Commit.TheVariants.{Idle, Log, Marking, Homes, Clear}
use Rattle.journal_core.specs.declared.work.Work.{Work}
use Rattle.journal_core.specs.declared.work.Due.{Due}
use Rattle.journal_core.specs.Causes.{causes_at, wider, joined_all, whole_of}
use Rattle.journal_core.specs.Places.{blocks_of, images_taken, place_in}
use Rattle.journal_core.specs.Slots.{descriptor_at, commit_at}
use Rattle.journal_core.specs.Work.{no_work, is_idle, begun, sealed_work, added_work, done_work, due_in, slot_in, cleared_slot, IsWork}

-- A journal, with a C for whom something was done: the number of a tag, or its members. Of each block of metadata: for
-- whom it was marked since the last seal; for whom the round's seals took it, until a home request carries it; and its
-- newest image. Of each slot: for whom its transaction was sealed. The blocks of the transaction sealed last, rising.
pub record Journaled (C : Type 0) : Type 0 where
  pub marks : List (Option C)
  pub round : List (Option C)
  pub slots : List (Option C)
  pub images : List (List ℕ)
  pub logged : List ℕ
  pub work : Work

-- a journal whose tags have these members
abbrev pub seen : Tags → Journaled ℕ → Journaled (List ℕ)
seen tags j = record {
  marks = causes_at same tags j.marks;
  round = causes_at same tags j.round;
  slots = causes_at same tags j.slots;
  images = j.images;
  logged = j.logged;
  work = j.work;
}

-- how often a journal holds each number
abbrev pub held_by : Journaled ℕ → ℕ → ℕ
held_by j n = held same j.marks n + (held same j.round n + held same j.slots n)

-- a journal of so many slots in which nothing was marked or sealed
abbrev pub new_journal : ℕ → List (List ℕ) → Journaled ℕ
new_journal slots images = record {
  marks = replicate 261 None;
  round = replicate 261 None;
  slots = replicate slots None;
  images = images;
  logged = [];
  work = no_work;
}

-- the image of a block
abbrev pub image_at : List (List ℕ) → ℕ → List ℕ
image_at images block = slice_index_or images (block - 1) []

-- a list of places of which one is emptied
abbrev pub without : {X : Type 0} → Option ℕ → List (Option X) → List (Option X)
without None places = places
without (Some at) places = slice_set places at None

-- the place of the home that a request carries, if it is about no slot
abbrev pub carried_place : Option ℕ → Option ℕ → Option ℕ
carried_place None home = Some (place_in home)
carried_place (Some slot) home = None

module _ {C : Type 0} (j : Journaled C) where
  -- how many buffers are marked
  abbrev pub marked_count : ℕ
  marked_count = length (blocks_of j.marks)

  -- a seal is due where commit is idle, some buffer is marked, and a slot is left
  abbrev pub can_seal : Bool
  can_seal = is_idle j.work.stage && nat_lt 0 marked_count && nat_lt j.work.used (length j.slots)

  -- the round's buffers go home where some slot is used, and either all are or nothing is left to be done
  abbrev pub goes_home : Bool → Bool
  goes_home all_returned =
      nat_lt 0 j.work.used && (j.work.used == length j.slots || (all_returned && marked_count == 0))

  -- the home block that goes next
  abbrev pub next_home : Option ℕ
  next_home = slice_get (blocks_of j.round) 0

  -- the request that commit adds next
  abbrev pub next_due : Bool → Option Due
  next_due all_returned =
      if is_idle j.work.stage && not (goes_home all_returned)
      then None
      else due_in (begun j.work) j.work.unfinished (length j.logged) next_home

  -- what a request carries that commit adds now
  abbrev pub carried_in : Commit ℕ → List ℕ
  carried_in Idle = []
  carried_in (Log t slot) = descriptor_block t.0 j.logged ++ flat_map (image_at j.images) j.logged
  carried_in (Marking t slot) = commit_block t.0
  carried_in (Homes t slot added) = slice_index_or j.images (place_in next_home) []
  carried_in (Clear t slot) = zero_block

  abbrev pub carried : List ℕ
  carried = carried_in (begun j.work)

  -- for whom it is added: a home for whom the round's seals took its buffer, another one for whom its transaction was
  -- sealed
  abbrev pub due_for_in : Commit ℕ → Option C
  due_for_in Idle = None
  due_for_in (Log t slot) = slice_index_or j.slots slot None
  due_for_in (Marking t slot) = slice_index_or j.slots slot None
  due_for_in (Homes t slot added) = slice_index_or j.round (place_in next_home) None
  due_for_in (Clear t slot) = slice_index_or j.slots slot None

  abbrev pub due_for : Option C
  due_for = due_for_in (begun j.work)

  -- that request was added: the buffer of a home, which is about no slot, is carried
  abbrev pub after_added : Journaled C
  after_added =
      record j {
        round = without (carried_place (slot_in (begun j.work)) next_home) j.round;
        work = added_work j.work;
      }

  -- a request is done: a transaction that was cleared has no causes any more
  abbrev pub after_done : Journaled C
  after_done =
      record j {
        slots = without (cleared_slot j.work.stage) j.slots;
        work = done_work (nat_lt 0 (length (blocks_of j.round))) j.work;
      }

  -- the transaction is committed
  abbrev pub is_committed : Txn → Bool
  is_committed t = nat_le 1 t.0 && nat_le t.0 j.work.committed

  -- a request of the stage, added and not done, of which all homes are told by their transaction alone
  abbrev pub IsOf : Commit ℕ → ReqKind → ℕ → Type 0
  IsOf Idle k first = ⊥
  IsOf (Log t slot) k first = (k ≡ kind.Log t) × (first ≡ descriptor_at slot)
  IsOf (Marking t slot) k first = (k ≡ kind.Commit t) × (first ≡ commit_at slot)
  IsOf (Homes t slot added) k first = k ≡ kind.Home t
  IsOf (Clear t slot) k first = (k ≡ kind.Clear t) × (first ≡ commit_at slot)

  pub record IsUnderWay (k : ReqKind) (first : ℕ) : Type 0 where
    pub some : 1 ≤ j.work.unfinished
    pub of_stage : IsOf j.work.stage k first

-- ---- where processes are seen

-- a buffer was marked for further processes
abbrev pub with_mark : ℕ → List ℕ → Journaled (List ℕ) → Journaled (List ℕ)
with_mark place more j =
    record j { marks = slice_set j.marks place (Some (wider (slice_index_or j.marks place None) more)) }

-- the marked buffers were sealed: they are those of the log, their images are what the files are then, the round has
-- taken them besides, and the next slot's transaction is sealed for all for whom they were marked
abbrev pub after_seal : ℕ → Slots → Journaled (List ℕ) → Journaled (List ℕ)
after_seal first files j = record {
  marks = replicate (length j.marks) None;
  round = joined_all j.round j.marks;
  slots = slice_set j.slots j.work.used (whole_of j.marks);
  images = images_taken first files j.marks j.images;
  logged = blocks_of j.marks;
  work = sealed_work j.work;
}

-- ---- what holds of it

-- the first slot whose transaction isn't cleared
abbrev pub first_used : Commit ℕ → ℕ
first_used (Clear t slot) = slot
first_used Idle = 0
first_used (Log t slot) = 0
first_used (Marking t slot) = 0
first_used (Homes t slot added) = 0

pub record IsJournal (room : ℕ) (j : Journaled ℕ) : Type 0 where
  pub marks : length j.marks ≡ 261
  pub round : length j.round ≡ 261
  pub slots : length j.slots ≤ 4
  pub images : length j.images ≡ 261
  pub enough : 261 ≤ room
  pub used : j.work.used ≤ length j.slots
  pub work : IsWork (length (blocks_of j.round)) j.work
  pub logged : 0 < j.work.used → IsDescriptor j.work.sealed j.logged
  pub filled : (k : ℕ) → first_used j.work.stage ≤ k → k < j.work.used → IsSome (slice_index_or j.slots k None)
