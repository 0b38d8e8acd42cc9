-- Only proofs need this: what the pieces of calls are.
use Rattle.std.specs.Prelude.{◌≡◌, ℕ, ◌+◌, ◌-◌, ◌<◌, ◌≤◌, List, length, IsTrue}
use Rattle.split_types.specs.declared.ids.Pid.{Pid}
use Rattle.split_types.specs.declared.ids.Serial.{Serial}
use Rattle.split_types.specs.declared.call.Call.{Call}
use Rattle.split_types.specs.declared.workload.Workload.{Workload}
use Rattle.split_types.specs.declared.event.Event.{Event}
use Rattle.split_types.specs.Files.{is_live}
use Rattle.split_types.specs.Pieces.{Piece, first_byte, bytes_to_move, piece_at}

-- the piece is the first that is left of a call that moved so many bytes
pub record IsFirstLeft (c : Call) (size moved : ℕ) (piece : Piece) : Type 0 where
  pub some : moved < bytes_to_move c size
  pub is : piece ≡ piece_at (first_byte c + moved) (bytes_to_move c size - moved)

-- a process of the workload puts some bytes of a page that a file may have
pub record PutIn (w : Workload) (h : List Event) (by : Pid) (s : Serial) (g from to fill : ℕ) : Type 0 where
  pub by_least : 1 ≤ by.0
  pub by_most : by.0 ≤ length w.procs
  pub procs_most : length w.procs ≤ 32
  pub file : IsTrue (is_live w h s.0)
  pub page : g < 1008
  pub some : from < to
  pub to_most : to ≤ 4096
  pub fill_most : fill ≤ 255
