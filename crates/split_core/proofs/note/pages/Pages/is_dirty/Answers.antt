-- A page is dirty where it is found so.
use Rattle.std.proofs.Common.{◌∙◌}
use Rattle.split_types.specs.declared.buf.Buf.TheVariants.{Page}
use Rattle.page_cache.specs.Cached.{page_of}
use Rattle.split_core.proofs.PageStart.{found_dirty, none_dirty}
use Rattle.split_core.proofs.note.pages.Pages.is_dirty.Goals as goal

pub returns-in-Some : goal.returns-in-Some
returns-in-Some c =
    found_dirty (page_of c.args.self.now.cache (Page c.args.serial c.args.page)) c.in-Some.state c.in-Some.ensures
    ∙ c.requires.1.dirty_are c.args.serial c.args.page

pub returns-in-None : goal.returns-in-None
returns-in-None c =
    none_dirty (page_of c.args.self.now.cache (Page c.args.serial c.args.page)) c.in-None.ensures
    ∙ c.requires.1.dirty_are c.args.serial c.args.page
