use Rattle.cause_set.specs.Tags.{Covers, same}
use Rattle.page_cache.specs.Cached.{tags_in}
use Rattle.layer_runs.proofs.WrittenPages.{HoldsFirst}
use Rattle.layer_runs.proofs.tests.served_runs.three_pages.Given as goal

abbrev pub invariant-loop-page : goal.invariant-loop-page
invariant-loop-page g l = record {
  holds : HoldsFirst l.cache l.s l.page;
  covers : Covers same (tags_in l.cache) (g.S.TagStore.now l.tags);
}
