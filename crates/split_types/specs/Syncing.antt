-- What an fsync waits for.
use Rattle.std.specs.Prelude.{ℕ, ◌==◌, List, [], ◌++◌, length, nat_lt, Bool, true, false, not, ◌&&◌, Option, Some, None}
use Rattle.std.specs.List.{list_any, flat_map}
use Rattle.split_types.specs.declared.ids.Serial.{Serial}
use Rattle.split_types.specs.declared.ids.Txn.{Txn}
use Rattle.split_types.specs.declared.buf.Buf.{Buf}
use Rattle.split_types.specs.declared.buf.Buf.TheVariants.{Page}
use Rattle.split_types.specs.declared.workload.Workload.{Workload}
use Rattle.split_types.specs.declared.event.Event.{Event}
use Rattle.split_types.specs.declared.event.Event.TheVariants.{Admit, Make, Flushed, Map}
use Rattle.split_types.specs.History.{◌▹◌}
use Rattle.split_types.specs.Hooks.{covers}
use Rattle.split_types.specs.OpenDirtyings.{open_at}
use Rattle.split_types.specs.Rounds.{next_txn}
use Rattle.split_types.specs.Requests.{unfinished}
use Rattle.split_types.specs.HeldPages.{known_pages}
use Rattle.split_types.specs.Files.{bound_file}
use Rattle.split_types.specs.FileMaps.{is_settled}
use Rattle.split_types.specs.DiskBytes.{Adding, adding}

-- ---- the pages of a file

-- the place of the last admit of process p
abbrev pub admit_place : List Event → ℕ → ℕ
admit_place [] p = 0
admit_place (h ▹ Admit by) p = elim (by.0 == p) [ true ↦ length h | false ↦ admit_place h p ]
admit_place (h ▹ e) p = admit_place h p

-- the places of the puts of a page that a request took when it was added
abbrev pub taken_puts : Buf → Option Adding → List ℕ
taken_puts b None = []
taken_puts b (Some a) = elim (covers a.request b) [ true ↦ open_at a.before b | false ↦ [] ]

-- the places of the puts of a page that aren't on the disk: no request took them, or one that isn't done well
abbrev pub unwritten_puts : List Event → Buf → List ℕ
unwritten_puts h b = open_at h b ++ flat_map (λ r. taken_puts b (adding h r.id)) (unfinished h)

-- the page is one of the file, and a put of it before this place isn't on the disk
abbrev pub is_unwritten : List Event → Serial → ℕ → Buf → Bool
is_unwritten h s at (Page t g) = t.0 == s.0 && list_any (λ i. nat_lt i at) (unwritten_puts h (Page t g))
is_unwritten h s at _ = false

-- every put of the file, if there is one, before this place is on the disk
abbrev pub is_written : List Event → Option Serial → ℕ → Bool
is_written h None at = false
is_written h (Some s) at = not (list_any (is_unwritten h s at) (known_pages h))

-- ---- the metadata of a file

-- the transaction that takes the last make or map of a file: the one that is sealed next after it; none where nothing
-- of the file was made or mapped
abbrev pub change_txn : List Event → ℕ → Option Txn
change_txn [] s = None
change_txn (h ▹ Make by slot serial) s = elim (serial.0 == s) [ true ↦ Some (next_txn h) | false ↦ change_txn h s ]
change_txn (h ▹ Map slot serial page n block new size) s =
    elim (serial.0 == s) [ true ↦ Some (next_txn h) | false ↦ change_txn h s ]
change_txn (h ▹ e) s = change_txn h s

-- that of a file, if there is one
abbrev pub change_txn_of : List Event → Option Serial → Option Txn
change_txn_of h None = None
change_txn_of h (Some s) = change_txn h s.0

-- the transaction that the fsync of process p awaits: the one that takes the last change of its file before it was
-- flushed; none where there is no such change
abbrev pub awaited_txn : Workload → List Event → ℕ → Option Txn
awaited_txn w [] p = None
awaited_txn w (h ▹ Flushed by) p =
    elim (by.0 == p) [ true ↦ change_txn_of h (bound_file w h p) | false ↦ awaited_txn w h p ]
awaited_txn w (h ▹ e) p = awaited_txn w h p

-- the transaction, if there is one, is committed, or there is nothing to wait for
abbrev pub is_safe : List Event → Option Txn → Bool
is_safe h None = true
is_safe h (Some t) = is_settled h (Some t)
