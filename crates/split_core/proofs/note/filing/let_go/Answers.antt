-- One block more waits.
use Rattle.std.proofs.Common.{get_or}
use Rattle.std.proofs.lemmas.Option.{slice_get-get_or}
use Rattle.split_core.proofs.FilingFilesLetGo.{gone_none, still_taken, gone_more, gone_all}
use Rattle.split_core.proofs.note.filing.let_go.Goals as goal

pub loop-block-init : goal.loop-block-init
loop-block-init c = gone_none c.args.alloc.now c.args.t c.args.blocks.now

pub free_later-requires : goal.free_later-requires
free_later-requires c =
    let blocks = c.args.blocks.now
    in let i = c.loop-block.block-index
    in still_taken c.args.alloc.now c.loop-block.alloc c.args.t blocks i (get_or blocks i 0) c.requires
    c.loop-block.invariant (slice_get-get_or blocks i 0 c.loop-block-test.true)

pub loop-block-preserved : goal.loop-block-preserved
loop-block-preserved c =
    let blocks = c.args.blocks.now
    in let i = c.loop-block.block-index
    in gone_more c.args.alloc.now c.loop-block.alloc c.free_later.new.self c.args.t blocks i (get_or blocks i 0)
    c.requires c.loop-block.invariant (slice_get-get_or blocks i 0 c.loop-block-test.true) c.free_later.ensures

pub returns : goal.returns
returns c =
    gone_all c.args.alloc.now c.loop-block.alloc c.args.t c.args.blocks.now c.loop-block.block-index
    c.loop-block-test.false c.loop-block.invariant
