use Rattle.std.proofs.Common.{◌≡◌}
use Rattle.page_cache.proofs.EachLaws.{all_unpinned, pinning}
use Rattle.page_cache.proofs.cache.Cache.unpin.Given as goal

abbrev pub invariant-loop-at : goal.invariant-loop-at
invariant-loop-at g l =
    record {
      unpinned : all_unpinned l.by l.self.places ≡ all_unpinned l.by l.initial.self.places;
      touches : l.self.touches ≡ l.initial.self.touches;
      limit : l.self.limit ≡ l.initial.self.limit;
      spare : l.self.spare ≡ l.initial.self.spare;
    }

abbrev pub decreases-loop-at : goal.decreases-loop-at
decreases-loop-at g l = pinning l.by l.self.places
