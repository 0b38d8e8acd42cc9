use Rattle.std.proofs.Common.{◌/◌, length, sym, ap, ◌∙◌}
use Rattle.sim_disk.specs.Load.{bytes_of}
use Rattle.sim_disk.proofs.FillLaws.{spread_count}
use Rattle.sim_disk.proofs.load.Load.count.Goals as goal

pub returns-in-Filled : goal.returns-in-Filled
returns-in-Filled c =
    c.len.ensures.same ∙ sym (spread_count _) ∙ ap (λ l. length (bytes_of l) / 4096) (sym c.in-Filled.is)
