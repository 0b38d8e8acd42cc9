-- One more page isn't busy.
use Rattle.split_core.proofs.PageRuns.{releases_more}
use Rattle.split_core.proofs.note.pages.Pages.release.Goals as goal

pub loop-k-preserved : goal.loop-k-preserved
loop-k-preserved c =
    releases_more c.args.self.now.cache c.loop-k.self.cache c.settle.new.self.cache c.args.serial c.args.page c.loop-k.k
    c.loop-k.invariant c.settle.ensures.page c.settle.ensures.touches
