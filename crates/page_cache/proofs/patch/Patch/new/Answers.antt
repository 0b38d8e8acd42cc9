use Rattle.page_cache.proofs.PatchLaws.{patch-new}
use Rattle.page_cache.proofs.patch.Patch.new.Goals as goal

pub returns : goal.returns
returns c = patch-new c.args.base c.args.from c.args.to c.args.byte c.requires.order c.requires.within
