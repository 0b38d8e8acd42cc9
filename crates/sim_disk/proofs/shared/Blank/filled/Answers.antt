use Rattle.std.proofs.Common.{length, vec_len, ap, ◌∙◌}
use Rattle.sim_disk.proofs.SharedLaws.{filled_up}
use Rattle.sim_disk.proofs.shared.Blank.filled.Goals as goal

pub returns : goal.returns
returns c =
    let memory = c.self.inside.memory in
    filled_up c.resize.result memory.items c.resize.new.self.items (vec_len memory) c.args.byte c.resize.ensures.items
    (c.resize.ensures.succeeds c.self.invariant.1) c.self.invariant.0 (memory.ok.0 ∙ ap length c.self.invariant.0)
