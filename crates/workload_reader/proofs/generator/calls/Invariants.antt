-- So many calls were made.
use Rattle.std.proofs.Common.{◌≡◌, ◌≤◌}
use Rattle.workload_reader.specs.Generated.{calls}
use Rattle.workload_reader.specs.Making.{HasMade}
use Rattle.workload_reader.proofs.generator.calls.Given as goal

abbrev pub invariant-loop-made : goal.invariant-loop-made
invariant-loop-made l = record {
  made : HasMade l.n l._made l.maker.draws.state l.maker.logged;
  calls_are : l.calls ≡ calls l.n l._made;
  few : l.maker.logged ≤ l._made;
}
