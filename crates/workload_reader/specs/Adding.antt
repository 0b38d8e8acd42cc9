-- One line more.
use Rattle.std.specs.Prelude.{◌≡◌, ◌+◌}
use Rattle.workload_reader.specs.declared.seen.Seen.{Seen}
use Rattle.workload_reader.specs.declared.line.Line.{Line}
use Rattle.workload_reader.specs.Line.{place, with_line}

-- what was seen, and the line
pub record Adds (old new : Seen) (l : Line) : Type 0 where
  pub workload_is : new.workload ≡ with_line old.workload l
  pub stage_is : new.stage ≡ place l + 1
