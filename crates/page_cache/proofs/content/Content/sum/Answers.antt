use Rattle.std.proofs.Common.{◌∙◌}
use Rattle.page_cache.proofs.ContentLaws.{sum-range}
use Rattle.page_cache.proofs.content.Content.sum.Goals as goal

pub returns-in-Filled : goal.returns-in-Filled
returns-in-Filled c =
    rw (← c.self.view_is, c.in-Filled.is)
    (c.sum_of.ensures.value ∙ sum-range c.args.from c.args.to c.in-Filled.byte c.requires.order c.requires.within)
