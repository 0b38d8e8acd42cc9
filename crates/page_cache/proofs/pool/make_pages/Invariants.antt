use Rattle.std.proofs.Common.{◌≡◌, ◌≤◌, ◌-◌, length, vec_len}
use Rattle.std.specs.Prelude.{All}
use Rattle.page_cache.proofs.pool.make_pages.Given as goal

abbrev pub invariant-loop-alloc : goal.invariant-loop-alloc
invariant-loop-alloc l =
    record {
      sized : All (λ page. length page.items ≡ 4096) l.ready.items;
      more : vec_len l.initial.ready ≤ vec_len l.ready;
    }

abbrev pub decreases-loop-alloc : goal.decreases-loop-alloc
decreases-loop-alloc l = l.pages - vec_len l.ready
