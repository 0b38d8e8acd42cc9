use Rattle.std.proofs.Common.{◌≡◌, replicate, None, vec_capacity}
use Rattle.journal_core.proofs.tagging.empty_places.Given as goal

abbrev pub invariant-loop : goal.invariant-loop
invariant-loop g l = record {
  items : l.made.items ≡ replicate l.counter None;
  room : vec_capacity l.made ≡ l.places;
}
