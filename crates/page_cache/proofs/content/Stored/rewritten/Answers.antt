use Rattle.page_cache.specs.Stored.{bytes_of}
use Rattle.page_cache.proofs.ContentLaws.{filled-whole}
use Rattle.page_cache.proofs.content.Stored.rewritten.Goals as goal

pub returns-then-to-from-eq-PAGE : goal.returns-then-to-from-eq-PAGE
returns-then-to-from-eq-PAGE c =
    filled-whole (bytes_of c.args.self.now) c.args.from c.args.to c.args.byte c.requires.len c.requires.within
    c.if-to-from-eq-PAGE.true

pub returns-in-Filled : goal.returns-in-Filled
returns-in-Filled c = rw c.in-Filled.is c.over.ensures
