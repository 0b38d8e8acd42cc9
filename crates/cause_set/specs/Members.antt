-- The processes of a set, as they are named.
use Rattle.std.specs.Prelude.{ℕ}
use Rattle.split_types.specs.declared.ids.Pid.{Pid}

-- the process of a number
abbrev pub pid_of : ℕ → Pid
pid_of p = record { 0 = p }
