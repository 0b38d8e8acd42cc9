-- Only proofs need this: runs of pages of files.
use Rattle.std.specs.Prelude.{◌≡◌, ℕ, ◌+◌, ◌<◌, ◌≤◌, ◌⊎◌, List, Bool, Option, Some}
use Rattle.split_types.specs.declared.ids.Pid.{Pid}
use Rattle.split_types.specs.declared.ids.Serial.{Serial}
use Rattle.split_types.specs.declared.buf.Buf.TheVariants.{Page}
use Rattle.split_types.specs.declared.request.ReqKind.{ReqKind}
use Rattle.split_types.specs.declared.request.ReqKind.TheVariants.{Read, Pages}
use Rattle.split_types.specs.declared.request.Request.{Request}
use Rattle.split_types.specs.declared.workload.Workload.{Workload}
use Rattle.split_types.specs.declared.event.Event.{Event}
use Rattle.split_types.specs.Pages.{is_ready}

-- 1 to 16 pages that a file may have, from page g on, of one of so many files
pub record IsFileRun (total : ℕ) (s : Serial) (g n : ℕ) : Type 0 where
  pub file : s.0 < total
  pub some : 1 ≤ n
  pub most : n ≤ 16
  pub within : g + n ≤ 1008

-- the kind of request writes pages of a file from this one on, or reads it
abbrev pub MovesPages : ReqKind → Serial → ℕ → Type 0
MovesPages kind serial page = (kind ≡ Pages serial page) ⊎ ((by : Pid) × (kind ≡ Read by serial page))

-- the request writes such pages, or reads one, in their blocks
pub record MovesRun (total : ℕ) (block_of : ℕ → ℕ → Option ℕ) (r : Request) : Type 0 where
  pub serial : Serial
  pub page : ℕ
  pub kind : MovesPages r.kind serial page
  pub run : IsFileRun total serial page r.n
  pub place : (k : ℕ) → k < r.n → block_of serial.0 (page + k) ≡ Some (r.first + k)

-- which pages are ready
abbrev pub readiness : Workload → List Event → Serial → ℕ → Bool
readiness w h s g = is_ready w h (Page s g)
