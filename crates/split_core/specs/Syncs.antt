-- What is kept of the pages and transactions that fsyncs wait for has to do with a history.
use Rattle.std.specs.Prelude.{◌≡◌, ℕ, zero, suc, ◌+◌, ◌≤◌, ◌==◌, List, length, slice_get, slice_set, slice_index_or, count_by, replicate, nat_lt, Bool, true, false, is_some, Option, Some, None, if◌then◌else◌}
use Rattle.std.specs.List.{list_any, flat_map}
use Rattle.split_types.specs.declared.ids.Serial.{Serial}
use Rattle.split_types.specs.declared.ids.Slot.{Slot}
use Rattle.split_types.specs.declared.ids.Txn.{Txn}
use Rattle.split_types.specs.declared.buf.Buf.{Buf}
use Rattle.split_types.specs.declared.buf.Buf.TheVariants.{Page}
use Rattle.split_types.specs.declared.workload.Workload.{Workload}
use Rattle.split_types.specs.declared.event.Event.{Event}
use Rattle.split_types.specs.Requests.{unfinished}
use Rattle.split_types.specs.OpenDirtyings.{open_at}
use Rattle.split_types.specs.DiskBytes.{adding}
use Rattle.split_types.specs.Calls.{call_of}
use Rattle.split_types.specs.Files.{is_live, bound_file}
use Rattle.split_types.specs.FileSlots.{file_in_slot, slot_of}
use Rattle.split_types.specs.Syncing.{admit_place, taken_puts, change_txn, awaited_txn}
use Rattle.split_core.specs.Givens.{is_sync}
use Rattle.split_core.specs.declared.note.syncs.Unwritten.{Unwritten}
use Rattle.split_core.specs.declared.note.syncs.FileSync.{FileSync}
use Rattle.split_core.specs.declared.note.syncs.CallSync.{CallSync}
use Rattle.split_core.specs.declared.note.syncs.Syncs.{Syncs}

-- ---- sets of pages

-- the page is in the set
abbrev pub is_in : List Bool → ℕ → Bool
is_in set g = slice_index_or set g false

abbrev pub no_pages : Unwritten
no_pages = record { dirty = replicate 1008 false; flying = replicate 1008 false }

-- a page was put
abbrev pub page_put : ℕ → Unwritten → Unwritten
page_put g u = record u { dirty = slice_set u.dirty g true }

-- a request takes a page: it is on its way where it was dirty
abbrev pub page_taken : ℕ → Unwritten → Unwritten
page_taken g u = record {
  dirty = slice_set u.dirty g false;
  flying = if is_in u.dirty g then slice_set u.flying g true else u.flying;
}

-- a request takes the n pages from this one on
abbrev pub pages_taken : ℕ → ℕ → Unwritten → Unwritten
pages_taken g zero u = u
pages_taken g (suc n) u = page_taken (g + n) (pages_taken g n u)

-- the request for these is done
abbrev pub pages_done : ℕ → ℕ → Unwritten → Unwritten
pages_done g zero u = u
pages_done g (suc n) u =
    let v : Unwritten = pages_done g n u in record v { flying = slice_set v.flying (g + n) false }

-- ---- what a history says of them

-- a place before this one is among these
abbrev pub is_any_before : ℕ → List ℕ → Bool
is_any_before at places = list_any (λ i. nat_lt i at) places

-- the places of the puts of a page that requests took which aren't done well
abbrev pub flying_puts : List Event → Buf → List ℕ
flying_puts h b = flat_map (λ r. taken_puts b (adding h r.id)) (unfinished h)

-- of each page of a file it is kept whether a put of it before a place is open, and whether a request took such a put
-- that isn't done well
pub record PutsAre (h : List Event) (s : Serial) (at : ℕ) (u : Unwritten) : Type 0 where
  pub dirty_long : length u.dirty ≡ 1008
  pub flying_long : length u.flying ≡ 1008
  pub dirty_are : (g : ℕ) → is_in u.dirty g ≡ is_any_before at (open_at h (Page s g))
  pub flying_are : (g : ℕ) → is_in u.flying g ≡ is_any_before at (flying_puts h (Page s g))

-- of a file that is there all its puts, and the transaction of its last change
pub record FileSyncIs (h : List Event) (s : Serial) (x : FileSync) : Type 0 where
  pub pages : (at : ℕ) → length h ≤ at → PutsAre h s at x.pages
  pub change : x.change ≡ change_txn h s.0

-- the file that the fsync of process p is bound to, from when it is admitted until it returns
abbrev pub synced_file : Workload → List Event → ℕ → Option Serial
synced_file w h p = if is_sync (call_of w h p) then bound_file w h p else None

-- of process p the file of its fsync, whether that is still there or not, the puts of it that came before the fsync was
-- admitted, and the transaction that the last fsync that was flushed awaits
pub record CallSyncIs (w : Workload) (h : List Event) (p : ℕ) (x : CallSync) : Type 0 where
  pub file : x.file ≡ synced_file w h p
  pub pages : (s : Serial) → x.file ≡ Some s → PutsAre h s (admit_place h p) x.pages
  pub awaited : x.awaited ≡ awaited_txn w h p

-- the process has an fsync that was admitted and is bound to a file
abbrev pub has_file : CallSync → Bool
has_file x = is_some x.file

pub record SyncsStand (w : Workload) (s : Syncs) (h : List Event) : Type 0 where
  pub files_many : length s.files.items ≡ 256
  pub files_are : (k : ℕ) (x : FileSync) (f : Serial) → slice_get s.files.items k ≡ Some x
      → file_in_slot w h k ≡ Some f → FileSyncIs h f x
  pub calls_many : length s.calls.items ≡ length w.procs
  pub calls_are : (i : ℕ) (x : CallSync) → slice_get s.calls.items i ≡ Some x → CallSyncIs w h (i + 1) x
  pub admitted : s.admitted ≡ count_by has_file s.calls.items

-- ---- what the calls of this part do

-- the slot of a file, where that is there
abbrev pub live_slot : Workload → List Event → Serial → Option Slot
live_slot w h s = if is_live w h s.0 then Some (slot_of w h s) else None

-- a file of which no page was put, with its last change
abbrev pub new_file : Option Txn → FileSync
new_file change = record { pages = no_pages; change = change }

abbrev pub no_call : CallSync
no_call = record { file = None; pages = no_pages; awaited = None }

-- the file in a slot, if there is one, becomes another
abbrev pub file_changed : (FileSync → FileSync) → Option Slot → List FileSync → List FileSync
file_changed f None files = files
file_changed f (Some k) files = slice_set files k.0 (f (slice_index_or files k.0 (new_file None)))

abbrev pub call_changed : (CallSync → CallSync) → ℕ → List CallSync → List CallSync
call_changed f i calls = slice_set calls i (f (slice_index_or calls i no_call))

abbrev pub file_put : ℕ → FileSync → FileSync
file_put g x = record x { pages = page_put g x.pages }

abbrev pub file_taken : ℕ → ℕ → FileSync → FileSync
file_taken g n x = record x { pages = pages_taken g n x.pages }

abbrev pub file_done : ℕ → ℕ → FileSync → FileSync
file_done g n x = record x { pages = pages_done g n x.pages }

abbrev pub file_mapped : Txn → FileSync → FileSync
file_mapped t x = record x { change = Some t }

-- it is an fsync of this file
abbrev pub is_of : Serial → CallSync → Bool
is_of s x = elim x.file [ None ↦ false | Some f ↦ f.0 == s.0 ]

abbrev pub call_taken : Serial → ℕ → ℕ → CallSync → CallSync
call_taken s g n x = if is_of s x then record x { pages = pages_taken g n x.pages } else x

abbrev pub call_done : Serial → ℕ → ℕ → CallSync → CallSync
call_done s g n x = if is_of s x then record x { pages = pages_done g n x.pages } else x

-- its file is dropped: what was put and not taken is gone
abbrev pub call_dropped : Serial → CallSync → CallSync
call_dropped s x =
    if is_of s x then record x { pages = record x.pages { dirty = replicate 1008 false } } else x

-- the fsync is admitted with what its file has to be written
abbrev pub call_admitted : Serial → Unwritten → CallSync → CallSync
call_admitted s u x = record { file = Some s; pages = u; awaited = x.awaited }

abbrev pub call_flushed : Option Txn → CallSync → CallSync
call_flushed t x = record x { awaited = t }

abbrev pub call_returned : CallSync → CallSync
call_returned x = record x { file = None }
