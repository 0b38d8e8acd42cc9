use Rattle.page_cache.proofs.TakeLaws.{WholeTo}
use Rattle.page_cache.proofs.cache.Cache.whole_tag.Given as goal

abbrev pub invariant-loop-k : goal.invariant-loop-k
invariant-loop-k g l =
    WholeTo (g.S.TagStore.now l.fn.tags) (g.S.TagStore.now l.tags) l.self l.s l.page l.k (g.S.TagStore.number l.whole)
