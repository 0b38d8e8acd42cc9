use Rattle.std.proofs.Common.{◌≤◌, ◌-◌, vec_len}
use Rattle.std.specs.Prelude.{All}
use Rattle.page_cache.specs.Pool.{IsRun}
use Rattle.page_cache.proofs.pool.make_runs.Given as goal

abbrev pub invariant-loop-alloc : goal.invariant-loop-alloc
invariant-loop-alloc l =
    record {
      empty : All IsRun l.ready.items;
      more : vec_len l.initial.ready ≤ vec_len l.ready;
    }

abbrev pub decreases-loop-alloc : goal.decreases-loop-alloc
decreases-loop-alloc l = l.runs - vec_len l.ready
