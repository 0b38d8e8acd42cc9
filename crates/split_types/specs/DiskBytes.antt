-- What write requests carry, and what the blocks of the disk hold.
use Rattle.std.specs.Prelude.{ℕ, ◌+◌, ◌-◌, ◌==◌, List, [], ◌∷◌, map, find, nat_le, nat_lt, Bool, true, false, ◌&&◌, Option, Some, None, if◌then◌else◌}
use Rattle.split_types.specs.declared.ids.ReqId.{ReqId}
use Rattle.split_types.specs.declared.ids.Txn.{Txn}
use Rattle.split_types.specs.declared.buf.Buf.{Buf}
use Rattle.split_types.specs.declared.buf.Buf.TheVariants.{Page}
use Rattle.split_types.specs.declared.request.ReqKind.{ReqKind}
use Rattle.split_types.specs.declared.request.ReqKind.TheVariants.{Read, Pages, Log, Commit, Home, Clear}
use Rattle.split_types.specs.declared.request.Request.{Request}
use Rattle.split_types.specs.declared.workload.Preset.{Preset}
use Rattle.split_types.specs.declared.workload.Workload.{Workload}
use Rattle.split_types.specs.declared.event.Event.{Event}
use Rattle.split_types.specs.declared.event.Event.TheVariants.{Add, Done}
use Rattle.split_types.specs.History.{◌▹◌}
use Rattle.split_types.specs.Rounds.{Sealing, before_seal, round_of}
use Rattle.split_types.specs.Parents.{buffer_at, home_block}
use Rattle.split_types.specs.Transactions.{is_marked}
use Rattle.split_types.specs.Bills.{sealed}
use Rattle.split_types.specs.Workloads.{first_block}
use Rattle.split_types.specs.Requests.{is_numbered, is_write}
use Rattle.split_types.specs.DiskLayout.{super_block, descriptor_block, commit_block, zero_block}
use Rattle.split_types.specs.FileSlots.{metadata_bytes}
use Rattle.split_types.specs.PageBytes.{filled_page, page_bytes}

-- ---- what a write request carries

-- the bytes of a buffer, if there is one: a page, or a block of metadata
abbrev pub buffer_bytes : Workload → List Event → Option Buf → List ℕ
buffer_bytes w h None = zero_block
buffer_bytes w h (Some (Page s g)) = page_bytes w h s g
buffer_bytes w h (Some b) = metadata_bytes w h b

-- the buffer at a place of a list
abbrev pub buffer_at_place : List Buf → ℕ → Option Buf
buffer_at_place [] i = None
buffer_at_place (b ∷ bufs) i = if i == 0 then Some b else buffer_at_place bufs (i - 1)

-- block i of the log of a transaction: the descriptor, and then each buffer that the seal took, as it was before that
abbrev pub log_bytes : Workload → List Event → Txn → ℕ → List ℕ
log_bytes w h t i =
    elim (i == 0) [
      | true ↦ descriptor_block t.0 (map home_block (sealed h t))
      | false ↦ buffer_bytes w (before_seal h t) (buffer_at_place (sealed h t) (i - 1))
    ]

-- the seal took the buffer
abbrev pub takes : Buf → Sealing → Bool
takes b s = is_marked s.before b

-- the history before the last seal of the transaction's round that took the buffer
abbrev pub before_last_take : List Event → Txn → Buf → List Event
before_last_take h t b = elim (find (takes b) (round_of h t)) [ None ↦ h | Some s ↦ s.before ]

-- what a write request that is added after h carries to its block i: pages as they are then, buffers of metadata as
-- they were before the seal that took them, in a home request the last one of its round that did
abbrev pub carried : Workload → List Event → Request → ℕ → List ℕ
carried w h r i = by_kind r.kind where
  by_kind : ReqKind → List ℕ
  by_kind (Read p s g) = []
  by_kind (Pages s g) = page_bytes w h s (g + i)
  by_kind (Log t) = log_bytes w h t i
  by_kind (Commit t) = commit_block t.0
  by_kind (Home t) = buffer_bytes w (before_last_take h t (buffer_at r.first)) (Some (buffer_at r.first))
  by_kind (Clear t) = zero_block

-- ---- the disk

-- the version of the disk's layout
abbrev pub layout_version : Workload → ℕ
layout_version w = if nat_lt w.version 2 then 1 else 2

-- the byte at each place of page i of these preset files; 0 behind them
abbrev pub preset_fill : List Preset → ℕ → ℕ
preset_fill [] i = 0
preset_fill (f ∷ fs) i = if nat_lt i f.pages then f.fill else preset_fill fs (i - f.pages)

-- a block of metadata before any event: the superblock, the buffers of the preset files, and an empty journal
abbrev pub start_metadata : Workload → ℕ → List ℕ
start_metadata w x =
    elim (x == 0) [
      | true ↦ super_block (layout_version w) w.device
      | false ↦ elim (nat_lt x 262) [ true ↦ metadata_bytes w [] (buffer_at x) | false ↦ zero_block ]
    ]

-- a block before any event: metadata, and from the first block of data on the pages of the preset files, in order
abbrev pub start_block : Workload → ℕ → List ℕ
start_block w x =
    elim (nat_lt x (first_block w)) [
      | true ↦ start_metadata w x
      | false ↦ filled_page (preset_fill w.files (x - first_block w))
    ]

-- an added request, with the history before it
pub record Adding : Type 0 where
  pub request : Request
  pub before : List Event

-- the add of the request of this number
abbrev pub adding : List Event → ReqId → Option Adding
adding [] id = None
adding (h ▹ Add by r) id =
    elim (is_numbered id r) [ true ↦ Some (record { request = r; before = h }) | false ↦ adding h id ]
adding (h ▹ e) id = adding h id

-- the request writes the block
abbrev pub writes : Request → ℕ → Bool
writes r x = is_write r && nat_le r.first x && nat_lt x (r.first + r.n)

-- what a block holds after a request that was done well, if it held these bytes before
abbrev pub after_write : Workload → Option Adding → ℕ → List ℕ → List ℕ
after_write w None x bytes = bytes
after_write w (Some a) x bytes =
    elim (writes a.request x) [ true ↦ carried w a.before a.request (x - a.request.first) | false ↦ bytes ]

-- what block x of the disk holds: what the last write of it that was done well carries, and before any what it holds at
-- the start
abbrev pub disk_block : Workload → List Event → ℕ → List ℕ
disk_block w [] x = start_block w x
disk_block w (h ▹ Done k id true) x = after_write w (adding h id) x (disk_block w h x)
disk_block w (h ▹ e) x = disk_block w h x
