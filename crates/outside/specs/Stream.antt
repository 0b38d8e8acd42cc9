-- A source or a sink over a real stream, as its contracts see it.
use Rattle.std.specs.Prelude.{ℕ}

-- the stream, and the count of faults
pub record Stream (R : Type 0) : Type 0 where
  pub inner : R
  pub faults : ℕ
