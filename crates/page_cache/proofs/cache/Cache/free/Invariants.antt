use Rattle.std.proofs.Common.{◌≤◌}
use Rattle.page_cache.proofs.RunLaws.{FreesTo}
use Rattle.page_cache.proofs.cache.Cache.free.Given as goal

abbrev pub invariant-loop-page : goal.invariant-loop-page
invariant-loop-page g l =
    record {
      frees : FreesTo (g.S.TagStore.now l.initial.tags) (g.S.TagStore.now l.tags) l.initial.self l.self l.s l.page;
      tags_spare : (g.S.TagStore.now l.initial.tags).spare ≤ (g.S.TagStore.now l.tags).spare;
    }
