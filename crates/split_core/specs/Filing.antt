-- What the files and blocks that are kept have to do with a history.
use Rattle.std.specs.Prelude.{◌≡◌, ℕ, ◌-◌, ◌<◌, List, length, map, slice_get, nat_le, Bool, false, not, ◌&&◌, ◌||◌, Option, Some, None, IsTrue, IsSome}
use Rattle.split_types.specs.declared.ids.Txn.{Txn}
use Rattle.split_types.specs.declared.call.Call.{Call}
use Rattle.split_types.specs.declared.request.ReqKind.{ReqKind}
use Rattle.split_types.specs.declared.request.ReqKind.TheVariants.{Commit}
use Rattle.split_types.specs.declared.request.Request.{Request}
use Rattle.split_types.specs.declared.workload.Workload.{Workload}
use Rattle.split_types.specs.declared.event.Event.{Event}
use Rattle.split_types.specs.Workloads.{first_block}
use Rattle.split_types.specs.FileMaps.{is_in_map, is_taken, is_waiting, is_going, drop_txn, reserved_pages}
use Rattle.split_types.specs.FileSlots.{live_files, next_serial}
use Rattle.split_types.specs.FileSizes.{size_of_some}
use Rattle.split_types.specs.Files.{file_for}
use Rattle.split_types.specs.LiveFiles.{LiveFile, slot_named}
use Rattle.small_fs.specs.Files.{Files, next_file}
use Rattle.delayed_alloc.specs.Blocks.{Blocks, State, Taken, Waiting, state_at, is_free, settled, IsLeastRun, TakesRun}
use Rattle.split_core.specs.declared.note.filing.Filing.{Filing}

-- the files that are there stand in their slots
pub record FilesAre (w : Workload) (fs : Files) (h : List Event) : Type 0 where
  pub first : fs.first ≡ first_block w
  pub slots : fs.slots ≡ live_files w h
  pub next : fs.next ≡ (next_serial w h).0

-- a block of data that is neither taken nor waits is free
abbrev pub is_free_block : Workload → List Event → ℕ → Bool
is_free_block w h x = nat_le (first_block w) x && not (is_taken w h x || is_waiting w h x)

-- what is kept of a block, if there is one, says that it is free
abbrev pub says_free : Option State → Bool
says_free None = false
says_free (Some s) = is_free s

-- the blocks that are free are kept as free, and those in the maps of files that are there as taken; those that a
-- dropped file had wait for the transaction that takes its drop, until that is committed, and no others do; as many free
-- blocks are promised as pages wait for one
pub record BlocksAre (w : Workload) (a : Blocks) (h : List Event) : Type 0 where
  pub count : length a.states ≡ w.device
  pub free : (x : ℕ) → x < w.device → says_free (state_at a x) ≡ is_free_block w h x
  pub taken : (x : ℕ) → IsTrue (is_taken w h x) → state_at a x ≡ Some Taken
  pub waits : (s x : ℕ) (t : Txn) → IsTrue (is_going h s) → drop_txn h s ≡ Some t → IsTrue (is_in_map w h s x)
      → state_at a x ≡ Some (Waiting t)
  pub gone : (x : ℕ) (t : Txn) → state_at a x ≡ Some (Waiting t) → IsTrue (is_waiting w h x)
  pub reserved : a.reserved ≡ length (reserved_pages w h)

pub record FilingStands (w : Workload) (f : Filing) (h : List Event) : Type 0 where
  pub files : FilesAre w f.fs h
  pub blocks : BlocksAre w f.alloc h

-- there is memory for one more file
abbrev pub HasFilingRoom : Filing → Type 0
HasFilingRoom f = 0 < f.fs.spare

-- ---- what the calls of this part do

-- the call works on this file
pub record IsFor (w : Workload) (h : List Event) (c : Call) (f : LiveFile) : Type 0 where
  pub file : file_for w h (Some c) ≡ Some f.serial
  pub size : size_of_some w h (file_for w h (Some c)) ≡ f.size

-- a file of this name may be made, for which there is memory
pub record MayMake (fs : Files) (name : List ℕ) : Type 0 where
  pub few : fs.next < 4294967295
  pub room : 0 < fs.spare
  pub fresh : slot_named fs.slots name ≡ None
  pub free : IsSome (next_file fs)

-- these blocks are taken, each named once
pub record AreTaken (a : Blocks) (blocks : List ℕ) : Type 0 where
  pub taken : (k x : ℕ) → slice_get blocks k ≡ Some x → state_at a x ≡ Some Taken
  pub once : (i j x : ℕ) → slice_get blocks i ≡ Some x → slice_get blocks j ≡ Some x → i ≡ j

-- these blocks wait for a transaction, all others stay, and so many promises are taken back
pub record LetsGo (old new : Blocks) (t : Txn) (gone : List ℕ) (promised : ℕ) : Type 0 where
  pub count : length new.states ≡ length old.states
  pub waits : (k x : ℕ) → slice_get gone k ≡ Some x → state_at new x ≡ Some (Waiting t)
  pub others : (x : ℕ) → ((k : ℕ) → slice_get gone k ≡ Some x → ⊥) → state_at new x ≡ state_at old x
  pub reserved : new.reserved ≡ old.reserved - promised

-- the blocks once a request is done: those that wait for the transaction that it commits, if it does, are free
abbrev pub settles : Option Request → Blocks → Blocks
settles None a = a
settles (Some r) a = by_kind r.kind where
  by_kind : ReqKind → Blocks
  by_kind (Commit t) = record a { states = map (settled t) a.states }
  by_kind _ = a

-- the first free blocks for n pages are taken
pub record Takes (old new : Blocks) (n : ℕ) : Type 0 where
  pub first : ℕ
  pub found : ℕ
  pub least : IsLeastRun old n first found
  pub taken : TakesRun old new first found
