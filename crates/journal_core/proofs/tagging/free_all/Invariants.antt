use Rattle.std.proofs.Common.{◌≡◌, ◌++◌, ◌≤◌, take, drop, replicate, None}
use Rattle.cause_set.specs.Tags.{Moved, no_use, held}
use Rattle.journal_core.proofs.tagging.free_all.Given as goal

abbrev pub invariant-loop-at : goal.invariant-loop-at
invariant-loop-at g l = record {
  items : l.places.items ≡ replicate l.at None ++ drop l.at l.initial.places.items;
  moved : Moved (g.S.TagStore.now l.initial.tags) (g.S.TagStore.now l.tags)
      (held g.S.TagStore.number (take l.at l.initial.places.items)) no_use;
  spare : (g.S.TagStore.now l.initial.tags).spare ≤ (g.S.TagStore.now l.tags).spare;
}
