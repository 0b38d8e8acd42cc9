use Rattle.std.proofs.Common.{◌≡◌, take, vec_capacity}
use Rattle.journal_core.specs.Places.{blocks_of}
use Rattle.journal_core.proofs.tagging.list_blocks.Given as goal

abbrev pub invariant-loop-at : goal.invariant-loop-at
invariant-loop-at g l = record {
  blocks : l.into.items ≡ blocks_of (take l.at l.places);
  room : vec_capacity l.into ≡ vec_capacity l.initial.into;
}
