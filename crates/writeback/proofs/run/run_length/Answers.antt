-- The first page goes on, and with each turn one page more.
use Rattle.writeback.proofs.RunLaws.{start_goes_on, one_more_goes_on}
use Rattle.writeback.proofs.run.run_length.Goals as goal

pub loop-k-init : goal.loop-k-init
loop-k-init g c =
    let start = c.args.start.now in
    start_goes_on c.args.c.now c.args.fs.now start.serial start.page c.requires.ready

pub loop-k-preserved : goal.loop-k-preserved
loop-k-preserved g c =
    let start = c.args.start.now in
    one_more_goes_on c.args.c.now c.args.fs.now start.serial start.page c.loop-k.k c.goes_on.result c.goes_on.ensures
    c.if-not-goes_on.false c.loop-k.invariant
