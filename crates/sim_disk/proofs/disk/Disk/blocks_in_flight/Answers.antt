use Rattle.std.proofs.Common.{length, sum_by, arith, ap, sym, ◌∙◌}
use Rattle.sim_disk.specs.Medium.{count_of}
use Rattle.sim_disk.specs.Crash.{in_flight_count}
use Rattle.sim_disk.proofs.CrashLaws.{in_flight_together, below_few}
use Rattle.sim_disk.proofs.disk.Disk.blocks_in_flight.Goals as goal

pub blocks_together-requires : goal.blocks_together-requires
blocks_together-requires c =
    let size = length c.self.inside.blocks.blocks in
    let writes = c.self.inside.writes.items in
    omega (
      arith,
      ap (sum_by count_of) c.deref.ensures.value,
      in_flight_together size writes c.self.invariant.writes,
      below_few writes size,
      c.self.invariant.few,
    )

pub returns : goal.returns
returns c =
    let size = length c.self.inside.blocks.blocks in
    let writes = c.self.inside.writes.items in
    c.blocks_together.ensures ∙ ap (sum_by count_of) c.deref.ensures.value
    ∙ sym (in_flight_together size writes c.self.invariant.writes) ∙ ap in_flight_count c.self.view_is
