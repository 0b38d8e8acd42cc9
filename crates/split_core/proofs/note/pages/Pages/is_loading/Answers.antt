-- A page is loading where it is found so.
use Rattle.page_cache.specs.Cached.{page_of}
use Rattle.split_core.proofs.PageStart.{found_loading, none_loading}
use Rattle.split_core.proofs.note.pages.Pages.is_loading.Goals as goal

pub returns-in-Some : goal.returns-in-Some
returns-in-Some c = found_loading (page_of c.args.self.now.cache c.args.b) c.in-Some.state c.in-Some.ensures

pub returns-in-None : goal.returns-in-None
returns-in-None c = none_loading (page_of c.args.self.now.cache c.args.b) c.in-None.ensures
