use Rattle.std.proofs.Common.{◌≡◌, ◌-◌, ◌≤◌, replicate, None, vec_len}
use Rattle.std.specs.Prelude.{vec_capacity}
use Rattle.page_cache.proofs.cache.empty_places.Given as goal

abbrev pub invariant-loop-all : goal.invariant-loop-all
invariant-loop-all g l =
    record {
      items : l.all.items ≡ replicate (vec_len l.all) None;
      within : vec_len l.all ≤ l.places;
      capacity : vec_capacity l.all ≡ l.places;
    }

abbrev pub decreases-loop-all : goal.decreases-loop-all
decreases-loop-all g l = l.places - vec_len l.all
