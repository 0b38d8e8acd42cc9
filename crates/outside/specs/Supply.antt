-- A source in memory that fails at listed calls, as its contracts see it.
use Rattle.std.specs.Prelude.{ℕ, List, drop}
use Rattle.outside.specs.Faults.{counted}

-- the bytes that are left, the most that one call gives, the numbers of the calls that fail, and the counts of calls
-- and
-- of faults
pub record Supply : Type 0 where
  pub left : List ℕ
  pub piece : ℕ
  pub fails : List ℕ
  pub calls : ℕ
  pub faults : ℕ

-- the source after a call that gave n bytes
abbrev pub supply_gave : Supply → ℕ → Supply
supply_gave s n = record s { left = drop n s.left; calls = counted s.calls }

-- the source after a call that failed
abbrev pub supply_failed : Supply → Supply
supply_failed s = record s { calls = counted s.calls; faults = counted s.faults }
