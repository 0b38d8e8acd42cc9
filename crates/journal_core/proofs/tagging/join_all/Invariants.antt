use Rattle.std.proofs.Common.{◌≡◌, ℕ, ◌+◌, ◌<◌, ◌≤◌, length, get_or, None}
use Rattle.cause_set.specs.Tags.{Moved, no_use, held}
use Rattle.journal_core.specs.Causes.{causes_in, joined}
use Rattle.journal_core.proofs.tagging.join_all.Given as goal

abbrev pub invariant-loop-at : goal.invariant-loop-at
invariant-loop-at g l = record {
  len : length l.into.items ≡ length l.places;
  moved : Moved (g.S.TagStore.now l.initial.tags) (g.S.TagStore.now l.tags) no_use
      (held g.S.TagStore.number l.into.items);
  made : (k : ℕ) → k < l.at → causes_in g.S.TagStore.number (g.S.TagStore.now l.tags) (get_or l.into.items k None)
      ≡ joined (causes_in g.S.TagStore.number (g.S.TagStore.now l.initial.tags) (get_or l.places k None))
      (causes_in g.S.TagStore.number (g.S.TagStore.now l.initial.tags) (get_or l.others k None));
  rest : (k : ℕ) → l.at ≤ k → get_or l.into.items k None ≡ None;
  spare : (g.S.TagStore.now l.initial.tags).spare ≤ (g.S.TagStore.now l.tags).spare + l.at;
}
