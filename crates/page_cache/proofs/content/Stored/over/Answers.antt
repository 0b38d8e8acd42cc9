use Rattle.page_cache.proofs.ContentLaws.{filled-same}
use Rattle.page_cache.proofs.content.Stored.over.Goals as goal

pub returns-then-all-byte : goal.returns-then-all-byte
returns-then-all-byte c =
    rw c.if-all-byte.true (filled-same c.args.from c.args.to c.args.byte c.requires.order c.requires.within)
