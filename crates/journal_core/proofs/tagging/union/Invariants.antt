use Rattle.std.proofs.Common.{◌≡◌, ◌+◌, ◌≤◌, take}
use Rattle.cause_set.specs.Tags.{Moved, no_use, use_in}
use Rattle.journal_core.specs.Causes.{causes_in, causes_at, whole_of}
use Rattle.journal_core.proofs.tagging.union.Given as goal

abbrev pub invariant-loop-place : goal.invariant-loop-place
invariant-loop-place g l = record {
  moved : Moved (g.S.TagStore.now l.initial.tags) (g.S.TagStore.now l.tags) no_use (use_in g.S.TagStore.number l.whole);
  set : causes_in g.S.TagStore.number (g.S.TagStore.now l.tags) l.whole
      ≡ whole_of (causes_at g.S.TagStore.number (g.S.TagStore.now l.initial.tags) (take l.place-index l.places));
  spare : (g.S.TagStore.now l.initial.tags).spare ≤ (g.S.TagStore.now l.tags).spare + l.place-index;
}
