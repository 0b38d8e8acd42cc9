-- The workloads that are accepted so far.
use Rattle.std.specs.Prelude.{◌≡◌, ◌≤◌, []}
use Rattle.split_types.specs.declared.workload.Sched.TheVariants.{Fifo}
use Rattle.split_types.specs.declared.workload.Workload.{Workload}
use Rattle.split_types.specs.IsWorkload.{IsWorkload}

-- what is built so far: all calls, over both layouts of the disk, in the order of `fifo`; no request is done badly
pub record IsBuilt (w : Workload) : Type 0 where
  pub version : w.version ≤ 2
  pub sched : w.sched ≡ Fifo
  pub fails : w.fails ≡ []

pub record IsAccepted (w : Workload) : Type 0 where
  pub workload : IsWorkload w
  pub built : IsBuilt w
