use Rattle.std.proofs.Common.{arith}
use Rattle.std.proofs.lemmas.Grind.{common_steps}
use Rattle.std.proofs.lemmas.Result.{IfOk-weaker}
use Rattle.sim_disk.specs.Bytes.{filled}
use Rattle.sim_disk.proofs.blocks.filled_block.Goals as goal

pub returns : goal.returns
unfolding filled
returns c = IfOk-weaker c.vec.result _ _ (λ v same. same (λ y h. grind (arith, common_steps)))
    c.vec.ensures.items_if_clones_equal
