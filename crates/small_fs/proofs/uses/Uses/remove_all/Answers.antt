use Rattle.std.proofs.Common.{get_or, arith}
use Rattle.small_fs.proofs.UsesLaws.{some_left}
use Rattle.small_fs.proofs.uses.Uses.remove_all.Goals as goal

pub remove_one-requires : goal.remove_one-requires
remove_one-requires c =
    let blocks = c.args.blocks.now in
    let i = c.loop-block.block-index in
    let block = get_or blocks i 0 in
    omega (arith, some_left blocks i c.loop-block-test.true, c.requires block, c.loop-block.invariant.pages block)
