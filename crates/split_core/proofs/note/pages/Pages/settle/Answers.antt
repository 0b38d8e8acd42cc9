-- A page that isn't busy stays as it is.
use Rattle.std.proofs.Common.{sym, ◌∙◌, refl}
use Rattle.page_cache.specs.Cached.{page_of}
use Rattle.split_core.proofs.PageRuns.{written_idle, changes_none}
use Rattle.split_core.proofs.note.pages.Pages.settle.Goals as goal

pub written-requires : goal.written-requires
written-requires c = sym c.is_busy.ensures ∙ c.if-is_busy.true

pub returns-else-is_busy : goal.returns-else-is_busy
returns-else-is_busy c = record {
  page = changes_none c.args.self.now.cache c.args.b _
      (written_idle (page_of c.args.self.now.cache c.args.b) (sym c.is_busy.ensures ∙ c.if-is_busy.false));
  touches = λ k was is. refl;
}
