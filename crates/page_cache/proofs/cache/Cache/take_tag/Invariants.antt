use Rattle.std.proofs.Common.{◌≤◌}
use Rattle.page_cache.proofs.TakeLaws.{TakesTo}
use Rattle.page_cache.proofs.cache.Cache.take_tag.Given as goal

abbrev pub invariant-loop-k : goal.invariant-loop-k
invariant-loop-k g l =
    record {
      takes : TakesTo (g.S.TagStore.now l.initial.tags) (g.S.TagStore.now l.tags) l.initial.self l.self l.s l.page l.k;
      tags_spare : (g.S.TagStore.now l.initial.tags).spare ≤ (g.S.TagStore.now l.tags).spare;
    }
