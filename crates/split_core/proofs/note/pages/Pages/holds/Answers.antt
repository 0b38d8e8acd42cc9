-- A page is held where it is found.
use Rattle.std.proofs.Common.{◌∙◌, ap, is_some}
use Rattle.page_cache.specs.Cached.{page_of}
use Rattle.split_core.proofs.PageStart.{found_held}
use Rattle.split_core.proofs.note.pages.Pages.holds.Goals as goal

pub returns : goal.returns
returns c = c.is_some.ensures ∙ ap is_some c.find.ensures ∙ found_held (page_of c.args.self.now.cache c.args.b)
