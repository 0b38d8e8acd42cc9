-- A sink in memory that fails at listed calls, as its contracts see it.
use Rattle.std.specs.Prelude.{ℕ, List, ◌++◌, take}
use Rattle.outside.specs.Faults.{counted}

-- the bytes that it holds, how many it can hold, the most that one call takes, the numbers of the calls that fail, and
-- the
-- counts of calls and of faults
pub record Store : Type 0 where
  pub held : List ℕ
  pub room : ℕ
  pub piece : ℕ
  pub fails : List ℕ
  pub calls : ℕ
  pub faults : ℕ

-- the sink after a call that took the first n of the bytes
abbrev pub store_took : Store → List ℕ → ℕ → Store
store_took s bytes n = record s { held = s.held ++ take n bytes; calls = counted s.calls }

-- the sink after a call that failed
abbrev pub store_failed : Store → Store
store_failed s = record s { calls = counted s.calls; faults = counted s.faults }
