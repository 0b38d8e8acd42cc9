-- Which block each page of a file has, and which blocks are taken, wait, are free or are promised.
use Rattle.std.specs.Prelude.{ℕ, ◌+◌, ◌-◌, ◌==◌, List, [], length, filter, nat_le, nat_lt, Bool, true, false, not, ◌&&◌, ◌||◌, is_none, Option, Some, None, if◌then◌else◌}
use Rattle.std.specs.List.{list_any, range_with_len}
use Rattle.split_types.specs.declared.ids.Txn.{Txn}
use Rattle.split_types.specs.declared.buf.Buf.{Buf}
use Rattle.split_types.specs.declared.buf.Buf.TheVariants.{Page}
use Rattle.split_types.specs.declared.request.ReqKind.{ReqKind}
use Rattle.split_types.specs.declared.request.ReqKind.TheVariants.{Commit}
use Rattle.split_types.specs.declared.request.Request.{Request}
use Rattle.split_types.specs.declared.request.Service.{Service}
use Rattle.split_types.specs.declared.request.Service.TheVariants.{Mapped}
use Rattle.split_types.specs.declared.workload.Workload.{Workload}
use Rattle.split_types.specs.declared.event.Event.{Event}
use Rattle.split_types.specs.declared.event.Event.TheVariants.{Make, Drop, Map, Done}
use Rattle.split_types.specs.History.{◌▹◌}
use Rattle.split_types.specs.Hooks.{is_among}
use Rattle.split_types.specs.Rounds.{next_txn}
use Rattle.split_types.specs.Workloads.{pages_in, page_block, first_block}
use Rattle.split_types.specs.Files.{is_live}
use Rattle.split_types.specs.Pages.{is_dirty}
use Rattle.split_types.specs.Writeback.{service}
use Rattle.split_types.specs.Reads.{request_numbered}
use Rattle.split_types.specs.HeldPages.{known_pages}

-- ---- the map of a file

-- the block of page g of a file: that of the last map of the page, and before any the one that it has at the start
abbrev pub mapped_block : Workload → List Event → ℕ → ℕ → Option ℕ
mapped_block w [] s g = if nat_lt g (pages_in w s) then Some (page_block w s g) else None
mapped_block w (h ▹ Map slot t page n block new size) s g =
    if t.0 == s && nat_le page g && nat_lt g (page + n) then Some (block + (g - page)) else mapped_block w h s g
mapped_block w (h ▹ e) s g = mapped_block w h s g

-- the block is in the map of a file: it is one of those that the file has at the start, or of one of its maps
abbrev pub is_in_map : Workload → List Event → ℕ → ℕ → Bool
is_in_map w [] s x = nat_le (page_block w s 0) x && nat_lt x (page_block w s 0 + pages_in w s)
is_in_map w (h ▹ Map slot t page n block new size) s x =
    (t.0 == s && nat_le block x && nat_lt x (block + n)) || is_in_map w h s x
is_in_map w (h ▹ e) s x = is_in_map w h s x

-- how many files were made
abbrev pub makes : List Event → ℕ
makes [] = 0
makes (h ▹ Make by slot serial) = makes h + 1
makes (h ▹ e) = makes h

-- the numbers of all files that there ever were
abbrev pub serials : Workload → List Event → List ℕ
serials w h = range_with_len 0 (length w.files + makes h)

-- ---- the blocks of dropped files

-- the file was dropped
abbrev pub is_dropped : List Event → ℕ → Bool
is_dropped [] s = false
is_dropped (h ▹ Drop by slot serial) s = serial.0 == s || is_dropped h s
is_dropped (h ▹ e) s = is_dropped h s

-- the transaction that takes the drop of a file: the one that is sealed next after it
abbrev pub drop_txn : List Event → ℕ → Option Txn
drop_txn [] s = None
drop_txn (h ▹ Drop by slot serial) s = elim (serial.0 == s) [ true ↦ Some (next_txn h) | false ↦ drop_txn h s ]
drop_txn (h ▹ e) s = drop_txn h s

-- the request is the commit request of a transaction
abbrev pub commits : Txn → Option Request → Bool
commits t None = false
commits t (Some r) = by_kind r.kind where
  by_kind : ReqKind → Bool
  by_kind (Commit u) = u.0 == t.0
  by_kind _ = false

-- the commit request of the transaction is done well
abbrev pub is_committed : List Event → Txn → Bool
is_committed [] t = false
is_committed (h ▹ Done k id true) t = commits t (request_numbered h id) || is_committed h t
is_committed (h ▹ e) t = is_committed h t

-- the transaction, if there is one, is committed
abbrev pub is_settled : List Event → Option Txn → Bool
is_settled h None = false
is_settled h (Some t) = is_committed h t

-- the file was dropped, and the transaction that takes the drop isn't committed
abbrev pub is_going : List Event → ℕ → Bool
is_going h s = is_dropped h s && not (is_settled h (drop_txn h s))

-- ---- all blocks of the disk

-- a live file has the block in its map
abbrev pub is_taken : Workload → List Event → ℕ → Bool
is_taken w h x = list_any (λ s. is_live w h s && is_in_map w h s x) (serials w h)

-- the block waits: a dropped file had it in its map, and the drop isn't committed
abbrev pub is_waiting : Workload → List Event → ℕ → Bool
is_waiting w h x = list_any (λ s. is_going h s && is_in_map w h s x) (serials w h)

-- the blocks of data that are neither taken nor wait, by rising number
abbrev pub free_blocks : Workload → List Event → List ℕ
free_blocks w h =
    filter (λ x. not (is_taken w h x || is_waiting w h x))
    (range_with_len (first_block w) (w.device - first_block w))

-- ---- pages without blocks

-- the page has no block
abbrev pub has_no_block : Workload → List Event → Buf → Bool
has_no_block w h (Page s g) = is_none (mapped_block w h s.0 g)
has_no_block w h _ = false

-- a free block is promised to the page: the page is dirty and has no block
abbrev pub is_reserved : Workload → List Event → Buf → Bool
is_reserved w h b = is_dirty w h b && has_no_block w h b

-- all pages to which a free block is promised
abbrev pub reserved_pages : Workload → List Event → List Buf
reserved_pages w h = filter (is_reserved w h) (known_pages h)

-- the page has no block and none is promised to it, and every free block is promised to some page
abbrev pub is_without_space : Workload → List Event → Buf → Bool
is_without_space w h b =
    has_no_block w h b
    && not (is_reserved w h b)
    && nat_le (length (free_blocks w h)) (length (reserved_pages w h))

-- the page is one of a run whose blocks writeback has mapped, and whose request it hasn't added yet
abbrev pub is_in_mapped_run : List Event → Buf → Bool
is_in_mapped_run h b = by_service (service h) where
  by_service : Service → Bool
  by_service (Mapped run) = is_among run.serial run.page run.n b
  by_service _ = false
