-- No page is held.
use Rattle.split_core.proofs.PageStart.{pages_none}
use Rattle.split_core.proofs.note.pages.Pages.new.Goals as goal

pub returns-clause-stands : goal.returns-clause-stands
returns-clause-stands c = λ tags.
    pages_none c.args.w.now c.in_ok-cache.cache tags c.in_ok-cache.ensures.limit c.in_ok-cache.ensures.empty
    c.in_ok-cache.ensures.none c.in_ok-cache.ensures.settled
