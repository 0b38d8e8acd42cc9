-- The pieces of a read or write: its bytes, parted at the ends of pages.
use Rattle.std.specs.Prelude.{ℕ, ◌+◌, ◌-◌, ◌/◌, ◌%◌, ◌==◌, List, [], min, nat_lt, Bool, ◌&&◌, Option, Some, None, if◌then◌else◌}
use Rattle.split_types.specs.declared.call.Call.{Call}
use Rattle.split_types.specs.declared.call.Call.TheVariants.{Write, Read}
use Rattle.split_types.specs.declared.workload.Workload.{Workload}
use Rattle.split_types.specs.declared.event.Event.{Event}
use Rattle.split_types.specs.declared.event.Event.TheVariants.{Enter, Get}
use Rattle.split_types.specs.History.{◌▹◌}
use Rattle.split_types.specs.Calls.{moved, call_of}
use Rattle.split_types.specs.FileSizes.{size_at_admit}

-- some bytes of one page of a file: from one place up to another
pub record Piece : Type 0 where
  pub page : ℕ
  pub from : ℕ
  pub to : ℕ

-- the piece that begins at this byte of its file, with so many bytes left: it ends with its page or with the last one
abbrev pub piece_at : ℕ → ℕ → Piece
piece_at at left = record { page = at / 4096; from = at % 4096; to = min 4096 (at % 4096 + left) }

-- the piece is a whole page
abbrev pub is_whole : Piece → Bool
is_whole p = p.from == 0 && p.to == 4096

-- the first byte that a call moves, in its file
abbrev pub first_byte : Call → ℕ
first_byte (Write name off len fill) = off
first_byte (Read name off len) = off
first_byte _ = 0

-- how many bytes a call moves, where its file had this size when it was admitted: a write all of its bytes, a read
-- those that lie within that size
abbrev pub bytes_to_move : Call → ℕ → ℕ
bytes_to_move (Write name off len fill) size = len
bytes_to_move (Read name off len) size = min (off + len) size - off
bytes_to_move _ size = 0

-- the first piece that is left of a call that moved so many bytes; none where it moved all
abbrev pub next_piece : Call → ℕ → ℕ → Option Piece
next_piece call size moved =
    if nat_lt moved (bytes_to_move call size)
    then Some (piece_at (first_byte call + moved) (bytes_to_move call size - moved))
    else None

-- the first piece that is left of the call of process p under way; none where none is left, or no call is
abbrev pub piece_left : Workload → List Event → ℕ → Option Piece
piece_left w h p =
    elim (call_of w h p) [ None ↦ None | Some call ↦ next_piece call (size_at_admit w h p) (moved h p) ]

-- the sum of the bytes that process p has got since it last entered a call
abbrev pub got : List Event → ℕ → ℕ
got [] p = 0
got (h ▹ Enter by k) p = if by.0 == p then 0 else got h p
got (h ▹ Get by serial page from to sum) p = if by.0 == p then got h p + sum else got h p
got (h ▹ e) p = got h p
