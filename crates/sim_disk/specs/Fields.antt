-- How the fields of a disk make up what contracts see of it.
use Rattle.std.specs.Prelude.{◌≡◌, ℕ, ◌+◌, ◌*◌, ◌%◌, ◌^◌, ◌<◌, ◌≤◌, min, List, length, vec_len, vec_capacity, All, AllPairs, count_by}
use Rattle.split_types.specs.declared.ids.ReqId.{ReqId}
use Rattle.sim_disk.specs.Medium.{InFlight, Medium, count_of, is_of, AreApart}
use Rattle.sim_disk.specs.declared.disk.Disk.TheInside.{Inside}

abbrev pub medium_of : Inside → Medium
medium_of d = record { blocks = d.blocks.blocks; writes = d.writes.items; spare = d.spare }

-- a write has whole blocks of a disk of this size
pub record IsWithin (size : ℕ) (w : InFlight) : Type 0 where
  pub whole : length w.bytes % 4096 ≡ 0
  pub end : w.first + count_of w ≤ size

-- each write has whole blocks, which no other has; one at most is of a request
pub record AreInFlight (size : ℕ) (writes : List InFlight) : Type 0 where
  pub within : All (IsWithin size) writes
  pub apart : AllPairs AreApart writes
  pub once : (id : ReqId) → count_by (is_of id) writes ≤ 1

-- there is the room that the writes in flight need, and that was promised; memory is ready for the shared blocks
-- that they may need, as far as these aren't made
pub record IsKept (d : Inside) : Type 0 where
  pub writes : AreInFlight (length d.blocks.blocks) d.writes.items
  pub few : length d.blocks.blocks < 2 ^ 32
  pub places : vec_len d.writes + d.spare ≤ vec_capacity d.writes
  pub room : vec_len d.writes + d.spare ≤ d.blocks.room
  pub ready : min (16 * (vec_len d.writes + d.spare)) d.blocks.left ≤ d.blocks.ready
