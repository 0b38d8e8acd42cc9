-- What contracts see of a disk, and of the writes in flight.
use Rattle.std.specs.Prelude.{◌⊎◌, ℕ, ◌+◌, ◌-◌, ◌/◌, ◌≤◌, ◌==◌, ◌&&◌, nat_le, nat_lt, List, length, find, Bool, Option}
use Rattle.std.specs.List.{list_any}
use Rattle.split_types.specs.declared.ids.ReqId.{ReqId}
use Rattle.sim_disk.specs.Bytes.{block_of}

-- a write in flight: its request, its first block and the bytes of its blocks
pub record InFlight : Type 0 where
  pub id : ReqId
  pub first : ℕ
  pub bytes : List ℕ

-- the bytes of each block, the writes in flight in the order of their starts, and for how many more there is room
pub record Medium : Type 0 where
  pub blocks : List (List ℕ)
  pub writes : List InFlight
  pub spare : ℕ

-- how many blocks a write has
abbrev pub count_of : InFlight → ℕ
count_of w = length w.bytes / 4096

-- the block is one of the write's
abbrev pub covers : InFlight → ℕ → Bool
covers w b = nat_le w.first b && nat_lt b (w.first + count_of w)

-- what the write brings to a block that it covers
abbrev pub brings : InFlight → ℕ → List ℕ
brings w b = block_of w.bytes (b - w.first)

-- a write in flight covers the block
abbrev pub is_in_flight : List InFlight → ℕ → Bool
is_in_flight writes b = list_any (λ w. covers w b) writes

-- the write is that of a request
abbrev pub is_of : ReqId → InFlight → Bool
is_of id w = w.id.0 == id.0

-- the write of a request, where it is in flight
abbrev pub write_of : List InFlight → ReqId → Option InFlight
write_of writes id = find (is_of id) writes

-- no block is one of both
abbrev pub AreApart : InFlight → InFlight → Type 0
AreApart v w = (v.first + count_of v ≤ w.first) ⊎ (w.first + count_of w ≤ v.first)
