-- What a crash leaves of a disk.
use Rattle.std.specs.Prelude.{◌≡◌, ℕ, ◌<◌, List, length, find, count_by, [], Option, Some, None, slice_get}
use Rattle.std.specs.List.{range_with_len}
use Rattle.sim_disk.specs.declared.disk.crash.Fate.{Fate}
use Rattle.sim_disk.specs.declared.disk.crash.Fate.TheVariants.{Old, New, Bytes}
use Rattle.sim_disk.specs.Bytes.{block_at}
use Rattle.sim_disk.specs.Medium.{InFlight, Medium, covers, brings, is_in_flight}

-- how many of the blocks below this one are in flight
abbrev pub in_flight_below : List InFlight → ℕ → ℕ
in_flight_below writes b = count_by (is_in_flight writes) (range_with_len 0 b)

-- how many blocks of the disk are in flight
abbrev pub in_flight_count : Medium → ℕ
in_flight_count m = in_flight_below m.writes (length m.blocks)

-- a block's bytes after its fate, from those before and those of the write
abbrev pub fated : Option Fate → List ℕ → List ℕ → List ℕ
fated None before written = before
fated (Some Old) before written = before
fated (Some New) before written = written
fated (Some (Bytes bytes)) before written = bytes.items

-- a block's bytes after a crash: those before, where no write in flight covers it, and else what its fate makes of it
abbrev pub struck : Option InFlight → Option Fate → List ℕ → ℕ → List ℕ
struck None fate before b = before
struck (Some w) fate before b = fated fate before (brings w b)

-- what a block holds after a crash; the fates are those of the blocks in flight, by rising block
abbrev pub crashed_at : List (List ℕ) → List InFlight → List Fate → ℕ → List ℕ
crashed_at blocks writes fates b = struck (find (λ w. covers w b) writes)
    (slice_get fates (in_flight_below writes b)) (block_at blocks b) b

-- a fate that gives bytes gives those of a block
abbrev pub IsFate : Fate → Type 0
IsFate (Bytes bytes) = length bytes.items ≡ 4096
IsFate _ = Unit {0}

-- the disk after a crash: each block as its fate makes it, and nothing in flight
pub record IsCrashed (m : Medium) (fates : List Fate) (after : Medium) : Type 0 where
  pub size : length after.blocks ≡ length m.blocks
  pub none : after.writes ≡ []
  pub blocks : (b : ℕ) → b < length m.blocks → block_at after.blocks b ≡ crashed_at m.blocks m.writes fates b
