-- How runs of bytes, and the place of each block, make up the blocks of a disk.
use Rattle.std.specs.Prelude.{◌≡◌, ℕ, ◌+◌, ◌*◌, ◌^◌, ◌<◌, ◌≤◌, ◌==◌, List, [], length, count_by, Bool, false, Option, Some, None, All}
use Rattle.slab.specs.Slab.{Slab, get}
use Rattle.sim_disk.specs.declared.runs.Place.{Place}
use Rattle.sim_disk.specs.declared.runs.Place.TheVariants.{Filled, Within}
use Rattle.sim_disk.specs.declared.runs.Run.{Run}
use Rattle.sim_disk.specs.Bytes.{filled, block_of}
use Rattle.sim_disk.specs.Shared.{IsMade}

-- the bytes of a run
abbrev pub bytes_in : Option Run → List ℕ
bytes_in None = []
bytes_in (Some run) = run.bytes.items

-- how many blocks are said to use a run
abbrev pub uses_in : Option Run → ℕ
uses_in None = 0
uses_in (Some run) = run.uses

-- the bytes at a place
abbrev pub content : Slab Run → Place → List ℕ
content runs (Filled byte) = filled byte
content runs (Within at run) = block_of (bytes_in (get runs run)) at

-- the place is in this run
abbrev pub is_in : ℕ → Place → Bool
is_in k (Filled byte) = false
is_in k (Within at run) = run == k

-- how many blocks stand in a run
abbrev pub standing : List Place → ℕ → ℕ
standing places k = count_by (is_in k) places

-- where the place is in a run, it is within its bytes
abbrev pub Fits : Slab Run → Place → Type 0
Fits runs (Filled byte) = Unit {0}
Fits runs (Within at run) = 4096 * (at + 1) ≤ length (bytes_in (get runs run))

-- each run tells how many blocks stand in it, and they are within its bytes
pub record AreKept (places : List Place) (runs : Slab Run) : Type 0 where
  pub counted : (k : ℕ) → uses_in (get runs k) ≡ standing places k
  pub within : All (Fits runs) places
  pub few : length places < 2 ^ 32

-- where the place is the shared block of a byte, that was made
abbrev pub IsBacked : List (List ℕ) → Place → Type 0
IsBacked shared (Filled byte) = IsMade shared byte
IsBacked shared (Within at run) = Unit {0}

-- each block stands in a run, which is kept, or is the shared block of a byte, which was made
pub record AreHeld (places : List Place) (runs : Slab Run) (shared : List (List ℕ)) : Type 0 where
  pub kept : AreKept places runs
  pub backed : All (IsBacked shared) places
