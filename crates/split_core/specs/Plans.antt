-- What a plan has to do with its workload.
use Rattle.std.specs.Prelude.{◌≡◌, ℕ, ◌+◌, ◌<◌, List, [], length, slice_index_or}
use Rattle.split_types.specs.declared.call.Call.{Call}
use Rattle.split_types.specs.declared.workload.Workload.{Workload}
use Rattle.split_types.specs.Workloads.{calls_of}
use Rattle.split_core.specs.declared.plan.Plan.{Plan}

-- these are the calls of each process
pub record AreCalls (w : Workload) (lists : List (List Call)) : Type 0 where
  pub callers : length lists ≡ length w.procs
  pub calls : (i : ℕ) → i < length w.procs → slice_index_or lists i [] ≡ calls_of w (i + 1)

pub record PlanStands (w : Workload) (p : Plan) : Type 0 where
  pub calls_are : AreCalls w p.calls.items
