-- Which process pins which place.
use Rattle.std.specs.Prelude.{◌≡◌, ℕ, ◌%◌, ◌^◌, ◌≤◌, List, Option, map, length}
use Rattle.std.specs.Option.{option_map}
use Rattle.split_types.specs.declared.ids.Pid.{Pid}
use Rattle.fixed_places.specs.Chains.{Chained}

-- the chain of a process
abbrev pub chain_of : Pid → ℕ
chain_of by = by.0 % 257

-- the place of each process is in its chain
pub record ArePinned (chained : Chained) (pins : List (Option Pid)) : Type 0 where
  pub few : length pins ≤ 2 ^ 32
  pub count : chained.count ≡ 257
  pub places : chained.places ≡ map (option_map chain_of) pins
