-- A page is busy where it is found so.
use Rattle.page_cache.specs.Cached.{page_of}
use Rattle.split_core.proofs.PageStart.{found_busy, none_busy}
use Rattle.split_core.proofs.note.pages.Pages.is_busy.Goals as goal

pub returns-in-Some : goal.returns-in-Some
returns-in-Some c = found_busy (page_of c.args.self.now.cache c.args.b) c.in-Some.state c.in-Some.ensures

pub returns-in-None : goal.returns-in-None
returns-in-None c = none_busy (page_of c.args.self.now.cache c.args.b) c.in-None.ensures
