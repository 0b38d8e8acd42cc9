-- The same pages are held.
use Rattle.split_core.proofs.PageStart.{pages_roomy}
use Rattle.split_core.proofs.note.pages.Pages.room.Goals as goal

pub returns-clause-stands : goal.returns-clause-stands
returns-clause-stands c = λ w tags h stands.
    pages_roomy w c.args.self.now.cache c.room.new.self tags h c.room.ensures.rest stands
