use Rattle.std.proofs.Common.{arith}
use Rattle.sim_disk.proofs.FillLaws.{spread_len, spread_count}
use Rattle.sim_disk.proofs.disk.Disk.start_filled.Goals as goal

pub send-requires-clause-within : goal.send-requires-clause-within
send-requires-clause-within c = rw c.new.ensures record {
  whole = omega (arith, spread_len c.args.fills);
  end = omega (arith, c.requires.within, spread_count c.args.fills);
}
